-- What the records of a file between two positions add to two lists.
use Rattle.std.proofs.Common.{◌≡◌, ℕ, ◌+◌, ◌<◌, ◌≤◌, ◌++◌, List, [], length, refl, sym, ap, ◌∙◌, subst, arith, inl, inr, append-nil, length-append}
use Rattle.std.specs.Prelude.{map}
use Rattle.std.proofs.lemmas.List.{nil_from_length}
use Rattle.linux_perf_data.proofs.LayoutUniqueness.{remaining_is_unique}
use Rattle.linux_perf_data.specs.InMemoryPositions.{FileRecordsFrom}
use Rattle.linux_perf_data.specs.Layout.{LayoutEnd, RecordView}
use Rattle.linux_perf_data.specs.PerfFile.{attributes_of_file, endian_of_file}
use Rattle.linux_perf_data.specs.declared.in_memory.position.RecordPosition.{RecordPosition}
use Rattle.perfdata_arrays.proofs.PageUniqueness.{of_first, page_is_unique, pages_join, same as same_description, same_attributes, same_base, some_follow}
use Rattle.perfdata_arrays.specs.Pages.{IsPage, layout_end_status}
use Rattle.perfdata_arrays.specs.declared.status.Status.{Status}
use Rattle.perfdata_arrays.specs.declared.status.Status.TheVariants.{Success}
use Rattle.perfdata_arrays.proofs.RecordItems.{ArePrefixes, ItemKind, ItemsFrom, fewer_items, items_later, items_of_both, joined, prefixes, shorter_prefix}

-- the records of a page, of an array for exactly these
abbrev pub exact : (bytes : List ℕ) {base capacity : ℕ} {from next : RecordPosition} {records : List RecordView} {status : Status} → IsPage bytes base from capacity records status next → IsPage bytes base from (length records) records Success next
exact bytes page = record {
  file = page.file;
  header = page.header;
  describes = page.describes;
  first_record_at = page.first_record_at;
  extends_remaining = page.extends_remaining;
  ends = inl (refl, refl);
  next_position = page.next_position;
  next_fits = page.next_fits;
  next_round_fits = page.next_round_fits;
}

-- the records of two pages from one position on are prefixes of one list
pub aligned : (bytes : List ℕ) {base base' capacity capacity' : ℕ} {from next next' : RecordPosition} {records records' : List RecordView} {status status' : Status}
    → IsPage bytes base from capacity records status next → IsPage bytes base' from capacity' records' status' next' → (x : List RecordView) × (y : List RecordView) × (records ++ x ≡ records' ++ y)
aligned bytes {base} {base'} {capacity} {capacity'} {from} {next} {next'} {records} {records'} {status} {status'} a b =
    let x = some_follow bytes a in
    let y = some_follow bytes b in
    (x.0, y.0, (remaining_is_unique _ _ _ _ _ _ _ _ _ _ x.1.1 (of_first bytes a b from (records' ++ y.0) y.1.0 y.1.1)).0)

-- the records of a page are a prefix of those of a page to the end
pub prefix_of_all : (bytes : List ℕ) {base base' capacity capacity' : ℕ} {from next next' : RecordPosition} {records records' : List RecordView} {status status' : Status}
    → IsPage bytes base from capacity records status next → IsPage bytes base' from capacity' records' status' next' → length records' < capacity' → (x : List RecordView) × (records ++ x ≡ records')
prefix_of_all bytes {base} {base'} {capacity} {capacity'} {from} {next} {next'} {records} {records'} {status} {status'} a b fewer =
    let found : (end : LayoutEnd) × FileRecordsFrom bytes (endian_of_file b.file) b.header next' (attributes_of_file b.file) [] end × (status' ≡ layout_end_status end) = elim b.ends [
      | inl full ↦ (let long = full.1 in absurd (omega (arith, fewer, long)))
      | inr ended ↦ ended.1
    ] in
    let x = some_follow bytes a in
    let unique = remaining_is_unique _ _ _ _ _ _ _ _ _ _ x.1.1 (of_first bytes a b from (records' ++ []) found.0 (b.extends_remaining [] found.0 found.1)) in
    (x.0, unique.0 ∙ append-nil records')

module _ {A B : Type 0} (kind : ItemKind A B) where
  -- the same by the attributes of another page of the same file
  pub in_file_of : (bytes : List ℕ) {base base' capacity capacity' : ℕ} {from from' next next' : RecordPosition} {records records' : List RecordView} {status status' : Status}
      (a : IsPage bytes base from capacity records status next) (b : IsPage bytes base' from' capacity' records' status' next') (used : ℕ) (rs : List RecordView) (s : List A) (f : List B)
      → ItemsFrom kind (endian_of_file b.file) (attributes_of_file b.file) base' used rs s f → ItemsFrom kind (endian_of_file a.file) (attributes_of_file a.file) base used rs s f
  in_file_of bytes {base} {base'} a b used rs s f items =
      subst (λ n. ItemsFrom kind (endian_of_file a.file) (attributes_of_file a.file) n used rs s f) (sym (same_base bytes a b))
      (subst (λ l. ItemsFrom kind (endian_of_file a.file) l base' used rs s f) (sym (same_attributes bytes a b))
      (subst (λ o. ItemsFrom kind o (attributes_of_file b.file) base' used rs s f) (sym (same_description bytes a b).same_endian) items))

  -- The records of a file from a position on up to another position add these.
  pub record ItemsUpTo (bytes : List ℕ) (from : RecordPosition) (s : List A) (f : List B) (next : RecordPosition) : Type 0 where
    pub records : List RecordView
    pub base : ℕ
    pub page : IsPage bytes base from (length records) records Success next
    pub items : ItemsFrom kind (endian_of_file page.file) (attributes_of_file page.file) base 0 records s f

  -- All records from a position on add these, and end with this status.
  pub record AllItems (bytes : List ℕ) (from : RecordPosition) (s : List A) (f : List B) (status : Status) : Type 0 where
    pub records : List RecordView
    pub base : ℕ
    pub capacity : ℕ
    pub next : RecordPosition
    pub page : IsPage bytes base from capacity records status next
    pub fewer : length records < capacity
    pub items : ItemsFrom kind (endian_of_file page.file) (attributes_of_file page.file) base 0 records s f

  -- ---- consecutive stretches

  module _ (bytes : List ℕ) {base base' capacity : ℕ} {from middle next : RecordPosition} {records later : List RecordView} {status : Status} (a : IsPage bytes base from (length records) records Success middle) (b : IsPage bytes base' middle capacity later status next)
      (s t : List A) (f g : List B) (first : ItemsFrom kind (endian_of_file a.file) (attributes_of_file a.file) base 0 records s f) (second : ItemsFrom kind (endian_of_file b.file) (attributes_of_file b.file) base' 0 later t g) where
    pub both_pages : IsPage bytes base from (length records + capacity) (records ++ later) status next
    both_pages = pages_join bytes base base' (length records) capacity from middle next records later status a refl b

    pub items_of_both_pages : ItemsFrom kind (endian_of_file both_pages.file) (attributes_of_file both_pages.file) base 0 (records ++ later) (joined kind s f t) (f ++ g)
    items_of_both_pages =
        let order = endian_of_file a.file in
        let attrs = attributes_of_file a.file in
        let counted : length f + 0 ≡ 0 + length f = omega arith in
        let moved = subst (λ n. ItemsFrom kind order attrs base n later (map (kind.shift (length f)) t) g) counted (items_later kind order attrs base (length f) 0 later t g (in_file_of bytes a b 0 later t g second)) in
        in_file_of bytes both_pages a 0 (records ++ later) (joined kind s f t) (f ++ g) (items_of_both kind order attrs base 0 records later s (map (kind.shift (length f)) t) f g first moved)

  pub items_join : (bytes : List ℕ) {from middle next : RecordPosition} {s t : List A} {f g : List B} → ItemsUpTo bytes from s f middle → ItemsUpTo bytes middle t g next → ItemsUpTo bytes from (joined kind s f t) (f ++ g) next
  items_join bytes {from} {middle} {next} {s} {t} {f} {g} a b = record {
    records = a.records ++ b.records;
    base = a.base;
    page = exact bytes (both_pages bytes a.page b.page s t f g a.items b.items);
    items = items_of_both_pages bytes a.page b.page s t f g a.items b.items;
  }

  -- the records up to a position and all from there on
  pub all_items_join : (bytes : List ℕ) {from middle : RecordPosition} {s t : List A} {f g : List B} {status : Status} → ItemsUpTo bytes from s f middle → AllItems bytes middle t g status → AllItems bytes from (joined kind s f t) (f ++ g) status
  all_items_join bytes {from} {middle} {s} {t} {f} {g} {status} a b =
      let fewer = b.fewer in
      record {
        records = a.records ++ b.records;
        base = a.base;
        capacity = length a.records + b.capacity;
        next = b.next;
        page = both_pages bytes a.page b.page s t f g a.items b.items;
        fewer = omega (arith, fewer, length-append a.records b.records);
        items = items_of_both_pages bytes a.page b.page s t f g a.items b.items;
      }

  -- ---- from one position on

  module _ (bytes : List ℕ) {from : RecordPosition} {s t : List A} {f g : List B} where
    -- fewer elements are a prefix of more elements
    pub more_items : {next next' : RecordPosition} (a : ItemsUpTo bytes from s f next) → ItemsUpTo bytes from t g next' → length s ≤ length t → ArePrefixes kind (endian_of_file a.page.file) (attributes_of_file a.page.file) a.base s f t g
    more_items a b fewer =
        let both = aligned bytes a.page b.page in
        prefixes kind (endian_of_file a.page.file) (attributes_of_file a.page.file) a.base 0 a.records b.records both.0 both.1 s t f g both.2 a.items (in_file_of bytes a.page b.page 0 b.records t g b.items) fewer

    -- as many elements are the same
    pub same_items : {next next' : RecordPosition} → ItemsUpTo bytes from s f next → ItemsUpTo bytes from t g next' → length s ≡ length t → (s ≡ t) × (f ≡ g)
    same_items {next} {next'} a b long =
        let more = more_items a b (omega (arith, long)) in
        let both = aligned bytes b.page a.page in
        let back = prefixes kind (endian_of_file b.page.file) (attributes_of_file b.page.file) b.base 0 b.records a.records both.0 both.1 t s g f both.2 b.items (in_file_of bytes b.page a.page 0 a.records s f a.items) (omega (arith, long)) in
        let none : more.more ≡ [] = nil_from_length more.more (omega (arith, long, ap length more.firsts_are, length-append s more.more)) in
        let none_of_seconds : more.more_seconds ≡ [] = nil_from_length more.more_seconds (omega (arith, ap length more.seconds_are, ap length back.seconds_are, length-append f more.more_seconds, length-append g back.more_seconds)) in
        (sym (more.firsts_are ∙ ap (λ l. s ++ l) none ∙ append-nil s), sym (more.seconds_are ∙ ap (λ l. f ++ l) none_of_seconds ∙ append-nil f))

    -- fewer records add no more
    pub of_fewer_records : {next next' : RecordPosition} (a : ItemsUpTo bytes from s f next) (b : ItemsUpTo bytes from t g next') → length a.records ≤ length b.records → (length s ≤ length t) × (length f ≤ length g)
    of_fewer_records a b fewer =
        let both = aligned bytes a.page b.page in
        let rest = shorter_prefix a.records b.records both.0 both.1 both.2 fewer in
        fewer_items kind (endian_of_file a.page.file) (attributes_of_file a.page.file) a.base 0 a.records b.records rest.0 s t f g rest.1 a.items (in_file_of bytes a.page b.page 0 b.records t g b.items)

    -- no records add more than all
    pub at_most_all : {next : RecordPosition} {status : Status} → ItemsUpTo bytes from s f next → AllItems bytes from t g status → (length s ≤ length t) × (length f ≤ length g)
    at_most_all {next} {status} a b =
        let rest = prefix_of_all bytes a.page b.page b.fewer in
        fewer_items kind (endian_of_file a.page.file) (attributes_of_file a.page.file) a.base 0 a.records b.records rest.0 s t f g rest.1 a.items (in_file_of bytes a.page b.page 0 b.records t g b.items)

    -- the records end with one status
    pub same_end : {status status' : Status} → AllItems bytes from s f status → AllItems bytes from t g status' → status ≡ status'
    same_end {status} {status'} a b =
        let fewer = a.fewer in
        let fewer' = b.fewer in
        (page_is_unique bytes a.base b.base a.capacity b.capacity from a.next b.next a.records b.records status status' (inr (fewer, fewer')) a.page b.page).1
