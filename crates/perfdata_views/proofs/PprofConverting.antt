-- A profile for pprof as it is made: its sample types, then the locations and samples of each entry.
use Rattle.std.proofs.Common.{◌≡◌, ◌∙◌, ◌<◌, ◌+◌, ◌^◌, ◌==◌, ◌⊎◌, inl, inr, ap, refl, sym, subst, arith, true, false, true≢false, codes, ℕ, ℤ, zero, suc, Bool, List, [], ◌∷◌, ◌++◌, length, map, replicate, slice_get, slice_set, take, Option, None, Some}
use Rattle.std.proofs.lemmas.List.{length-replicate, map-append, map_more, take_more}
use Rattle.std.specs.List.{sum_by}
use Rattle.std.proofs.lemmas.Option.{get_or_from_slice_get, slice_get_within}
use Rattle.perfdata_profile.proofs.Counting.{related_push}
use Rattle.perfdata_profile.proofs.Elements.{old_or_last, slice_get_last, slice_get_more, some_same}
use Rattle.perfdata_profile.proofs.Growing.{grows_equal, none_at, nothing}
use Rattle.perfdata_profile.proofs.Searching.{at_map, map_at}
use Rattle.perfdata_profile.proofs.Valuing.{entry_at, sum_by_map}
use Rattle.perfdata_profile.specs.Interned.{location_number, mapping_number}
use Rattle.perfdata_profile.specs.Profiles.{valued_entry}
use Rattle.perfdata_profile.specs.Sums.{entry_samples, entry_weight}
use Rattle.perfdata_profile.specs.Samples.{AreRelated}
use Rattle.perfdata_profile.specs.declared.lines.Line.{Line as ProfileLine}
use Rattle.perfdata_profile.specs.Values.{IsLocation as IsLocationId, LineValue, Lists, LocationValue, RangeValue, ThreadKey, line_in, lines_value, location_at, location_value, no_location, no_range, range_at, range_value, stack_at, thread_key}
use Rattle.perfdata_profile.specs.declared.locations.Location.{Location}
use Rattle.perfdata_profile.specs.declared.locations.LocationId.{LocationId}
use Rattle.perfdata_profile.specs.declared.mappings.MappedRange.{MappedRange}
use Rattle.perfdata_profile.specs.declared.mappings.MappingId.{MappingId}
use Rattle.perfdata_profile.specs.declared.sums.SampleKey.{SampleKey}
use Rattle.perfdata_profile.specs.declared.sums.Sums.{Sums}
use Rattle.perfdata_views.specs.Entries.{Entry, entry_key}
use Rattle.perfdata_views.specs.PprofSamples.{AreColumns, CountsSamples, IsFile, IsFileOf, IsFunction, IsLabel, IsLine, IsLocation, IsSampleOf, IsShown, IsText, IsType, ShownSample, id_labels, no_frames, or_unknown, shown_line, shown_location, shown_name, shown_sample, shown_stack, shown_thread}
use Rattle.perfdata_views.specs.declared.pprof_profile.Column.{Column}
use Rattle.perfdata_views.specs.declared.pprof_profile.Converter.{Converter}
use Rattle.perfdata_views.specs.steps.PprofSamples.{AddsEntries, AddsEntry, AddsKey, AddsLines, AreKnown, AreOnce, AreRows, AreTypes, AreUsed, Converts, Extends, ExtendsTypes, FindsLocations, HasHeading, IsCached, Keeps, lists_in, tables_in}
use Rattle.perfdata_views.proofs.PprofSamples.{entries_fit, entry_keeps, entry_more, fit_less, padded_same, rows_kept, rows_none}
use Rattle.perfdata_views.proofs.PprofTables.{extends_same, extends_trans, file_of_kept, has_id, keeps_trans, labels_kept, lines_kept, location_kept, locations_kept, same_labels, same_locations, samples_keep, text_kept, type_kept}
use Rattle.pprof.specs.Messages.{ProfileValue, SampleValue as SampleMessage}
use Rattle.pprof.specs.Labels.{HasLabels, IsKeyOf, comm_key, number_labels, pid_key, tid_key}
use Rattle.pprof.specs.Rows.{Identifies}
use Rattle.pprof.specs.Samples.{AddsSamples, Row, padded, sample_row}
use Rattle.pprof.specs.Tables.{Builds, Tables, no_rows}
use Rattle.pprof.specs.Texts.{AreStrings}
use Rattle.pprof.specs.declared.builder.FunctionNames.{FunctionNames}
use Rattle.pprof.specs.declared.builder.Summary.{Summary}
use Rattle.pprof.specs.declared.profile.Label.{Label}
use Rattle.pprof.specs.declared.profile.Line.{Line}

pub converts_same : (converter : Converter) → Converts converter converter
converts_same converter = record { lists = refl; extends = extends_same (tables_in converter); cached = λ cached. cached }

pub converts_trans : (first second third : Converter) → Converts first second → Converts second third → Converts first third
converts_trans first second third converts more = record {
  lists = more.lists ∙ converts.lists;
  extends = extends_trans (tables_in first) (tables_in second) (tables_in third) converts.extends more.extends;
  cached = λ cached. more.cached (converts.cached cached);
}

-- The value of a location that is found.
pub found_location : (lists : Lists) (id : LocationId) (location : Location) → slice_get lists.locations (location_number id) ≡ Some location → location_at lists id ≡ location_value lists location
found_location lists id location at =
    get_or_from_slice_get (map (location_value lists) lists.locations) (location_number id) (location_value lists location) no_location (at_map (location_value lists) lists.locations (location_number id) location at)

-- Elements of lists of which one is set.
pub set_marked : {A : Type 0} → (xs : List A) (index : ℕ) (x : A) → index < length xs → slice_get (slice_set xs index x) index ≡ Some x
set_marked [] index x below = absurd (omega (arith, below))
set_marked (y ∷ xs) zero x below = refl
set_marked (y ∷ xs) (suc index) x below = set_marked xs index x (omega (arith, below))

pub kept_true : (xs : List Bool) (index at : ℕ) → slice_get xs at ≡ Some true → slice_get (slice_set xs index true) at ≡ Some true
kept_true [] index at is = cc
kept_true (y ∷ xs) zero zero is = refl
kept_true (y ∷ xs) zero (suc at) is = is
kept_true (y ∷ xs) (suc index) zero is = is
kept_true (y ∷ xs) (suc index) (suc at) is = kept_true xs index at is

pub set_or_kept : {A : Type 0} → (xs : List A) (index : ℕ) (x : A) (at : ℕ) (other : A) → slice_get (slice_set xs index x) at ≡ Some other
    → (slice_get xs at ≡ Some other) ⊎ ((at ≡ index) × (other ≡ x))
set_or_kept [] index x at other is = inl is
set_or_kept (y ∷ xs) zero x zero other is = inr (refl, sym (some_same x other is))
set_or_kept (y ∷ xs) zero x (suc at) other is = inl is
set_or_kept (y ∷ xs) (suc index) x zero other is = inl is
set_or_kept (y ∷ xs) (suc index) x (suc at) other is = elim (set_or_kept xs index x at other is) [
  | inl old ↦ inl old
  | inr last ↦ inr (ap (λ (n : ℕ). suc n) last.0, last.1)
]

-- The first elements of a list, and one more.
pub taken : {A : Type 0} → (xs : List A) (index : ℕ) (x : A) → slice_get xs index ≡ Some x → take index xs ++ x ∷ [] ≡ take (index + 1) xs
taken {A} xs index x at =
    ap (λ (y : A). take index xs ++ y ∷ []) (sym (get_or_from_slice_get xs index x x at)) ∙ sym (take_more xs index x (slice_get_within xs index x at))

pub mapped : {A B : Type 0} → (f : A → B) (xs : List A) (index : ℕ) (x : A) → slice_get xs index ≡ Some x
    → map f (take index xs) ++ f x ∷ [] ≡ map f (take (index + 1) xs)
mapped {A} f xs index x at =
    ap (λ (y : A). map f (take index xs) ++ f y ∷ []) (sym (get_or_from_slice_get xs index x x at)) ∙ sym (map_more f xs index x (slice_get_within xs index x at))

-- The columns of one more entry.
pub used_none : (count : ℕ) (used : List Bool) → used ≡ replicate count false → AreUsed [] count used
used_none count used is = record {
  number = ap length is ∙ length-replicate {A = Bool} count false;
  each = λ index key sums at fits. absurd (none_at [] refl index (key, sums) at);
}

pub used_more : (entries : List (SampleKey × Sums)) (entry : SampleKey × Sums) (count : ℕ) (old new : List Bool) → AreUsed entries count old
    → (entry.0.column < length old → slice_get new entry.0.column ≡ Some true)
    → ((at : ℕ) → slice_get old at ≡ Some true → slice_get new at ≡ Some true) → length new ≡ length old → AreUsed (entries ++ entry ∷ []) count new
used_more entries entry count old new are marked kept number = record {
  number = number ∙ are.number;
  each = λ index key sums at fits. elim (old_or_last entries entry index (key, sums) at) [
    | inl was ↦ kept key.column (are.each index key sums was fits)
    | inr last ↦
        let column : key.column ≡ entry.0.column = ap (λ (e : SampleKey × Sums). e.0.column) last.1 in
        subst (λ (n : ℕ). slice_get new n ≡ Some true) (sym column) (marked (omega (arith, column, fits, are.number)))
  ];
}

pub some_length : (n : ℕ) → (n == 0) ≡ false → 0 < n
some_length zero is = absurd (true≢false is)
some_length (suc n) is = omega arith

-- A name that is empty, and one that isn't.
pub unknown_empty : (name : List ℕ) → length name ≡ 0 → codes "[unknown]" ≡ or_unknown name
unknown_empty [] none = refl
unknown_empty (byte ∷ bytes) none = absurd (omega (arith, none))

pub unknown_other : (name : List ℕ) → 0 < length name → name ≡ or_unknown name
unknown_other [] some = absurd (omega (arith, some))
unknown_other (byte ∷ bytes) some = refl

-- What is added after other rows.
pub file_is : (first second third : Tables) (range : RangeValue) (filename build_id id : ℕ) → IsText first filename range.path → Extends first second
    → IsText second build_id range.build_id
    → Identifies second.mappings (record { memory_start = range.start; memory_limit = range.end; file_offset = range.page_offset; filename = filename; build_id = build_id }) id third.mappings
    → Extends second third → IsFile third id range
file_is first second third range filename build_id id path extends build_id_is identifies more = record {
  file = record { memory_start = range.start; memory_limit = range.end; file_offset = range.page_offset; filename = filename; build_id = build_id };
  has_id = has_id second.mappings third.mappings (record { memory_start = range.start; memory_limit = range.end; file_offset = range.page_offset; filename = filename; build_id = build_id }) id identifies;
  start = refl;
  end = refl;
  page_offset = refl;
  path = text_kept second third more.keeps filename range.path (text_kept first second extends.keeps filename range.path path);
  build_id = text_kept second third more.keeps build_id range.build_id build_id_is;
}

pub function_is : (first second third : Tables) (names : FunctionNames) (id : ℕ) (name file : List ℕ) → IsText first names.name name → Extends first second
    → IsText second names.filename file → names.system_name ≡ names.name → Identifies second.functions names id third.functions → Extends second third
    → IsFunction third id name file
function_is first second third names id name file named extends in_file system identifies more = record {
  names = names;
  has_id = has_id second.functions third.functions names id identifies;
  name_is = text_kept second third more.keeps names.name name (text_kept first second extends.keeps names.name name named);
  system_name = system;
  file_is = text_kept second third more.keeps names.filename file in_file;
}

-- One more line of a location.
pub adds_no_lines : (lists : Lists) (tables : Tables) (added : List Line) → added ≡ [] → AddsLines lists tables [] added tables
adds_no_lines lists tables added none = record {
  extends = extends_same tables;
  are = subst (λ (l : List Line). AreRelated (IsLine tables) l []) (sym none) tt;
}

pub adds_line : (lists : Lists) (old middle new : Tables) (lines : List ProfileLine) (next : ProfileLine) (added more : List Line) (line : Line) → AddsLines lists old lines added middle
    → Extends middle new → IsLine new line (shown_line (line_in lists.names next)) → more ≡ added ++ line ∷ [] → AddsLines lists old (lines ++ next ∷ []) more new
adds_line lists old middle new lines next added more line adds extends is longer =
    let values : List LineValue = map shown_line (lines_value lists lines) in
    let last : LineValue = shown_line (line_in lists.names next) in
    let kept = lines_kept middle new extends.keeps added values adds.are in
    let all = related_push (IsLine new) added values line last kept is in
    let mapped_more : map shown_line (lines_value lists (lines ++ next ∷ [])) ≡ values ++ last ∷ [] =
    ap (map shown_line) (map-append (line_in lists.names) lines (next ∷ [])) ∙ map-append shown_line (lines_value lists lines) (line_in lists.names next ∷ []) in
    record {
      extends = extends_trans old middle new adds.extends extends;
      are = subst (λ (l : List Line). AreRelated (IsLine new) l (map shown_line (lines_value lists (lines ++ next ∷ [])))) (sym longer)
          (subst (AreRelated (IsLine new) (added ++ line ∷ [])) (sym mapped_more) all);
    }

pub location_is : (first second third : Tables) (location : LocationValue) (mapping_id id : ℕ) (lines : List Line) → IsFileOf first mapping_id location.mapping → Extends first second
    → AreRelated (IsLine second) lines location.lines → Identifies second.locations (record { mapping_id = mapping_id; address = location.address; lines = lines }) id third.locations
    → Extends second third → IsLocation third id location
location_is first second third location mapping_id id lines file extends lines_are identifies more = record {
  row = record { mapping_id = mapping_id; address = location.address; lines = lines };
  has_id = has_id second.locations third.locations (record { mapping_id = mapping_id; address = location.address; lines = lines }) id identifies;
  address = refl;
  file = file_of_kept second third more.keeps mapping_id location.mapping (file_of_kept first second extends.keeps mapping_id location.mapping file);
  lines_are = lines_kept second third more.keeps lines location.lines lines_are;
}

-- The value of a mapping that is found, and that one is.
pub found_range : (lists : Lists) (id : MappingId) (range : MappedRange) → slice_get lists.ranges (mapping_number id) ≡ Some range → range_at lists id ≡ range_value lists range
found_range lists id range at =
    get_or_from_slice_get (map (range_value lists) lists.ranges) (mapping_number id) (range_value lists range) no_range (at_map (range_value lists) lists.ranges (mapping_number id) range at)

pub is_there : {A : Type 0} → (xs : List A) (index : ℕ) → index < length xs → None ≡ slice_get xs index → ⊥
is_there xs index below none =
    let found = entry_at xs index below in
    nothing found.0 (none ∙ found.1)

-- The labels of a thread.
id_labels_are : (tables : Tables) (once : AreStrings tables.strings) (key : List ℕ) (number : Option ℤ) (index : ℕ) → IsKeyOf tables.strings key number index
    → AreRelated (IsLabel tables) (number_labels index number) (id_labels key number)
id_labels_are tables once key None index is = tt
id_labels_are tables once key (Some number) index is = (record { key = is; text = once.first; number = refl }, tt)

related_append : {A B : Type 0} → (relation : A → B → Type 0) (xs more : List A) (ys others : List B) → AreRelated relation xs ys → AreRelated relation more others
    → AreRelated relation (xs ++ more) (ys ++ others)
related_append relation [] more [] others are also = also
related_append relation [] more (y ∷ ys) others are also = absurd are
related_append relation (x ∷ xs) more [] others are also = absurd are
related_append relation (x ∷ xs) more (y ∷ ys) others are also = (are.0, related_append relation xs more ys others are.1 also)

pub labels_are : (tables : Tables) (name : ℕ) (thread : ThreadKey) (labels : List Label) → AreStrings tables.strings → IsText tables name (shown_name thread.name)
    → HasLabels tables.strings (record { name = name; pid = thread.pid; tid = thread.tid }) labels → AreRelated (IsLabel tables) labels (shown_thread thread)
labels_are tables name thread labels once named has =
    let pids = id_labels_are tables once pid_key thread.pid has.pid has.pid_is in
    let tids = id_labels_are tables once tid_key thread.tid has.tid has.tid_is in
    let ids = related_append (IsLabel tables) (number_labels has.pid thread.pid) (number_labels has.tid thread.tid) (id_labels pid_key thread.pid) (id_labels tid_key thread.tid) pids tids in
    let comm : IsLabel tables (record { key = has.comm; text = name; number = 0 }) (record { key = comm_key; text = shown_name thread.name; number = 0 }) = record { key = has.comm_is; text = named; number = refl } in
    subst (λ (l : List Label). AreRelated (IsLabel tables) l (shown_thread thread)) (sym has.labels_are) (comm, ids)

-- Known ids stay known, and one more is.
known_more : (lists : Lists) (old new : Tables) (ids known : List ℕ) (number id : ℕ) → Keeps old new
    → ((at other : ℕ) → slice_get known at ≡ Some other → (slice_get ids at ≡ Some other) ⊎ ((at ≡ number) × (other ≡ id)))
    → IsLocation new id (shown_location (location_at lists (record { 0 = number }))) → AreKnown lists old ids → AreKnown lists new known
known_more lists old new ids known number id keeps was is are at other there positive = elim (was at other there) [
  | inl before ↦ location_kept old new keeps other (shown_location (location_at lists (record { 0 = at }))) (are at other before positive)
  | inr last ↦ subst (λ (n : ℕ). IsLocation new other (shown_location (location_at lists (record { 0 = n })))) (sym last.0)
      (subst (λ (i : ℕ). IsLocation new i (shown_location (location_at lists (record { 0 = number })))) (sym last.1) is)
]

-- A converter whose tables are extended, and one that stores an id too.
pub extends_converts : (old new : Converter) → lists_in new ≡ lists_in old → new.location_ids.items ≡ old.location_ids.items → Extends (tables_in old) (tables_in new) → Converts old new
extends_converts old new lists ids extends = record {
  lists = lists;
  extends = extends;
  cached = λ cached. subst (λ (l : Lists). AreKnown l (tables_in new) new.location_ids.items) (sym lists)
      (subst (AreKnown (lists_in old) (tables_in new)) (sym ids) (λ at id there positive. location_kept (tables_in old) (tables_in new) extends.keeps id
      (shown_location (location_at (lists_in old) (record { 0 = at }))) (cached at id there positive)));
}

pub stored_converts : (old new : Converter) (number row : ℕ) → lists_in new ≡ lists_in old → Extends (tables_in old) (tables_in new)
    → ((at other : ℕ) → slice_get new.location_ids.items at ≡ Some other → (slice_get old.location_ids.items at ≡ Some other) ⊎ ((at ≡ number) × (other ≡ row)))
    → IsLocation (tables_in new) row (shown_location (location_at (lists_in old) (record { 0 = number }))) → Converts old new
stored_converts old new number row lists extends was is = record {
  lists = lists;
  extends = extends;
  cached = λ cached. subst (λ (l : Lists). AreKnown l (tables_in new) new.location_ids.items) (sym lists)
      (known_more (lists_in old) (tables_in old) (tables_in new) old.location_ids.items new.location_ids.items number row extends.keeps was is cached);
}

-- One more location of a stack.
pub finds_none : (converter : Converter) (ids : List ℕ) → ids ≡ [] → FindsLocations converter [] ids converter
finds_none converter ids none = record {
  converts = converts_same converter;
  are = λ cached within. subst (λ (i : List ℕ). AreRelated (IsLocation (tables_in converter)) i []) (sym none) tt;
}

pub finds_more : (old middle new : Converter) (stack : List LocationId) (next : LocationId) (ids more : List ℕ) (id : ℕ) → FindsLocations old stack ids middle → Converts middle new
    → (IsCached middle → IsLocationId (lists_in middle) next → IsLocation (tables_in new) id (shown_location (location_at (lists_in middle) next)))
    → more ≡ ids ++ id ∷ [] → FindsLocations old (stack ++ next ∷ []) more new
finds_more old middle new stack next ids more id finds converts is longer = record {
  converts = converts_trans old middle new finds.converts converts;
  are = λ cached within.
      let values : List LocationValue = map shown_location (map (location_at (lists_in old)) stack) in
      let before = finds.are cached (λ index one at. within index one (slice_get_more stack (next ∷ []) index one at)) in
      let kept = locations_kept (tables_in middle) (tables_in new) converts.extends.keeps ids values before in
      let last_within : IsLocationId (lists_in middle) next = subst (λ (l : Lists). IsLocationId l next) (sym finds.converts.lists) (within (length stack) next (slice_get_last stack next)) in
      let last : IsLocation (tables_in new) id (shown_location (location_at (lists_in old) next)) = subst (λ (l : Lists). IsLocation (tables_in new) id (shown_location (location_at l next))) finds.converts.lists (is (finds.converts.cached cached) last_within) in
      let all = related_push (IsLocation (tables_in new)) ids values id (shown_location (location_at (lists_in old) next)) kept last in
      let mapped_more : map shown_location (map (location_at (lists_in old)) (stack ++ next ∷ [])) ≡ values ++ shown_location (location_at (lists_in old) next) ∷ [] =
      ap (map shown_location) (map-append (location_at (lists_in old)) stack (next ∷ [])) ∙ map-append shown_location (map (location_at (lists_in old)) stack) (location_at (lists_in old) next ∷ []) in
      subst (λ (i : List ℕ). AreRelated (IsLocation (tables_in new)) i (map shown_location (map (location_at (lists_in old)) (stack ++ next ∷ [])))) (sym longer)
      (subst (AreRelated (IsLocation (tables_in new)) (ids ++ id ∷ [])) (sym mapped_more) all);
}

-- The locations of a stack, which has some.
pub stack_shown : (stack : List LocationValue) → 0 < length stack → map shown_location stack ≡ shown_stack stack
stack_shown [] some = absurd (omega (arith, some))
stack_shown (location ∷ stack) some = refl

pub empty_shown : (stack : List LocationValue) → length stack ≡ 0 → no_frames ∷ [] ≡ shown_stack stack
empty_shown [] none = refl
empty_shown (location ∷ stack) none = absurd (omega (arith, none))

-- The samples with a key.
pub key_added : (old between middle new : Converter) (key : SampleKey) (sums : Sums) (column : ℕ) (labels : List Label) (ids : List ℕ)
    → Converts old between → AreRelated (IsLabel (tables_in between)) labels (shown_thread (thread_key (lists_in old) key.thread)) → Converts between middle
    → (IsCached between → AreRelated (IsLocation (tables_in middle)) ids (shown_stack (stack_at (lists_in between) key.stack)))
    → AddsSamples (length (tables_in middle).types) (tables_in middle).samples labels ids (record { samples = sums.samples; column = column; weight = sums.weight }) (tables_in new).samples
    → tables_in new ≡ record (tables_in middle) { samples = (tables_in new).samples } → lists_in new ≡ lists_in middle → new.location_ids.items ≡ middle.location_ids.items
    → AddsKey old key sums (Some column) new
key_added old between middle new key sums column labels ids first labels_is second ids_are adds rest lists stored =
    let keeps = samples_keep (tables_in middle) (tables_in new) (tables_in new).samples rest in
    record {
      lists = lists ∙ second.lists ∙ first.lists;
      cached = λ cached.
          let known = second.cached (first.cached cached) in
          subst (λ (l : Lists). AreKnown l (tables_in new) new.location_ids.items) (sym lists)
          (subst (AreKnown (lists_in middle) (tables_in new)) (sym stored) (λ at id there positive. location_kept (tables_in middle) (tables_in new) keeps id
          (shown_location (location_at (lists_in middle) (record { 0 = at }))) (known at id there positive)));
      adds = λ cached.
          let locations = ids_are (first.cached cached) in
          record {
            between = tables_in middle;
            extends = extends_trans (tables_in old) (tables_in between) (tables_in middle) first.extends second.extends;
            location_ids = ids;
            labels = labels;
            is_shown = record {
              locations = subst (λ (l : Lists). AreRelated (IsLocation (tables_in middle)) ids (shown_stack (stack_at l key.stack))) first.lists locations;
              labels_are = labels_kept (tables_in between) (tables_in middle) second.extends.keeps labels (shown_thread (thread_key (lists_in old) key.thread)) labels_is;
            };
            adds = adds;
            new_is = rest;
          };
    }

-- One more entry.
pub entries_more : (old middle new : Converter) (columns : List ℕ) (entries : List Entry) (key : SampleKey) (sums : Sums) → AddsEntries old columns entries middle
    → AddsKey middle key sums (slice_get columns key.column) new → AddsEntries old columns (entries ++ valued_entry (lists_in old) (key, sums) ∷ []) new
entries_more old middle new columns entries key sums before adds =
    let more : IsCached old → AddsEntry (tables_in middle) (shown_sample (valued_entry (lists_in old) (key, sums)).0) sums (slice_get columns key.column) (tables_in new) =
    λ cached. subst (λ (lists : Lists). AddsEntry (tables_in middle) (shown_sample (valued_entry lists (key, sums)).0) sums (slice_get columns key.column) (tables_in new)) before.lists (adds.adds (before.cached cached)) in
    record {
      lists = adds.lists ∙ before.lists;
      cached = λ cached. adds.cached (before.cached cached);
      keeps = λ cached. keeps_trans (tables_in old) (tables_in middle) (tables_in new) (before.keeps cached)
          (entry_keeps (tables_in middle) (tables_in new) (shown_sample (valued_entry (lists_in old) (key, sums)).0) sums (slice_get columns key.column) (more cached));
      rows = λ cached once none fit. entry_more (tables_in middle) (tables_in new) columns entries (valued_entry (lists_in old) (key, sums))
          ((before.keeps cached).once once) (more cached) fit (before.rows cached once none (fit_less columns entries (valued_entry (lists_in old) (key, sums)) fit));
    }

columns_kept : (old new : Tables) (described : List Column) (entries : List Entry) (columns : List ℕ) → Keeps old new
    → AreColumns entry_key entry_samples entry_weight old described entries columns → AreColumns entry_key entry_samples entry_weight new described entries columns
columns_kept old new described entries columns keeps are =
    let types = grows_equal old.types new.types keeps.types in
    record {
      first = type_kept old new keeps.strings types 0 _ _ are.first;
      number = are.number;
      each = λ index one column at there.
          let found = are.each index one column at there in
          (found.0, found.1, type_kept old new keeps.strings types found.0 column.name.items column.unit.now found.2);
    }

pub entries_none : (converter : Converter) (columns : List ℕ) → AddsEntries converter columns [] converter
entries_none converter columns = record {
  lists = refl;
  cached = λ cached. cached;
  keeps = λ cached. (extends_same (tables_in converter)).keeps;
  rows = λ cached once none fit. rows_none (tables_in converter) columns none;
}

-- Tables without rows.
none_once : AreOnce no_rows
none_once = record {
  strings = record { first = refl; once = λ first second row is also. only first row is ∙ sym (only second row also) };
  mappings = λ first second row is also. absurd (none_at [] refl first row is);
  functions = λ first second row is also. absurd (none_at [] refl first row is);
  locations = λ first second row is also. absurd (none_at [] refl first row is);
}
  where
    only : (index : ℕ) (row : List ℕ) → slice_get ([] ∷ []) index ≡ Some row → index ≡ 0
    only zero row is = refl
    only (suc index) row is = absurd (none_at [] refl index row is)

-- A profile that is built of tables has the samples of their rows.
module _ (tables : Tables) (summary : Summary) (profile : ProfileValue) (described : List Column) (entries : List Entry) (columns : List ℕ) (builds : Builds tables summary profile) (once : AreOnce tables) (are : AreColumns entry_key entry_samples entry_weight tables described entries columns) (rows : AreRows tables columns entries) where
  abbrev count : ℕ
  count = length tables.types

  row_at : (at : ℕ) (sample : SampleMessage) → slice_get profile.samples at ≡ Some sample → ((row : Row) × (slice_get tables.samples at ≡ Some row) × (sample_row count row ≡ sample))
  row_at at sample is = map_at (sample_row count) tables.samples at sample (ap (λ (s : List SampleMessage). slice_get s at) (sym builds.samples) ∙ is)

  shown_of : (row : Row) (sample : SampleMessage) (shown : ShownSample) → sample_row count row ≡ sample → IsShown tables sample.location_ids sample.labels shown → IsShown tables row.location_ids row.labels shown
  shown_of row sample shown same is = subst (λ (s : SampleMessage). IsShown tables s.location_ids s.labels shown) (sym same) is

  samples_counted : CountsSamples entry_key entry_samples entry_weight described entries profile
  samples_counted = record {
    tables = tables;
    summary = summary;
    builds = builds;
    columns = columns;
    are_columns = are;
    each = λ at sample is.
        let row = row_at at sample is in
        let own = rows.each at row.0 row.1 in
        let values : IsSampleOf entry_key entry_samples entry_weight columns tables entries row.0.location_ids row.0.labels (padded count row.0.values) =
        subst (IsSampleOf entry_key entry_samples entry_weight columns tables entries row.0.location_ids row.0.labels) (sym (padded_same count row.0.values own.number)) own in
        subst (λ (s : SampleMessage). IsSampleOf entry_key entry_samples entry_weight columns tables entries s.location_ids s.labels s.values) row.2 values;
    all = λ index one is within.
        let own = rows.all index one is (omega (arith, within, are.number)) in (
          own.0,
          sample_row count own.1,
          ap (λ (s : List SampleMessage). slice_get s own.0) builds.samples ∙ at_map (sample_row count) tables.samples own.0 own.1 own.2,
          own.3,
        );
    once = λ first second sample other shown is also shows too.
        let row = row_at first sample is in
        let next = row_at second other also in
        let mine = shown_of row.0 sample shown row.2 shows in
        let its = shown_of next.0 other shown next.2 too in
        rows.once first second row.0 next.0 row.1 next.1 (same_labels tables once row.0.labels next.0.labels shown.labels mine.labels_are its.labels_are)
        (same_locations tables once row.0.location_ids next.0.location_ids shown.locations mine.locations its.locations);
  }

-- The tables before the samples are added.
pub heading : (lists : Lists) (keys : List (SampleKey × Sums)) (described : List Column) (used : List Bool) (columns : List ℕ) (first second third fourth : Tables)
    → first ≡ no_rows → AreUsed keys (length described) used → (first.types ≡ [] → IsType second 0 (codes "samples") (codes "count")) → AreTypes second described used columns
    → ExtendsTypes first second → Extends second third → Extends third fourth → HasHeading described (map (valued_entry lists) keys) columns fourth
heading lists keys described used columns first second third fourth empty are_used counts types types_extend more last =
    let extends = extends_trans second third fourth more last in
    let strings = extends.keeps.strings in
    let same_types = grows_equal second.types fourth.types extends.keeps.types in
    record {
      are_columns = record {
        first = type_kept second fourth strings same_types 0 (codes "samples") (codes "count") (counts (ap (λ (t : Tables). t.types) empty));
        number = types.number;
        each = λ index one column at there.
            let entry = map_at (valued_entry lists) keys index one at in
            let same : entry.0.0.column ≡ one.0.column = ap (λ (e : Entry). e.0.column) entry.2 in
            let within = slice_get_within described one.0.column column there in
            let marked : slice_get used one.0.column ≡ Some true = subst (λ (n : ℕ). slice_get used n ≡ Some true) same (are_used.each index entry.0.0 entry.0.1 entry.1 (omega (arith, same, within))) in
            let found = types.each one.0.column column there marked in
            (found.0, found.1, type_kept second fourth strings same_types found.0 column.name.items column.unit.now found.2);
      };
      none = extends.samples ∙ types_extend.samples ∙ ap (λ (t : Tables). t.samples) empty;
      once = extends.keeps.once (types_extend.once (subst AreOnce (sym empty) none_once));
    }

-- The profile that is made has the samples of all entries.
pub converted : (lists : Lists) (keys : List (SampleKey × Sums)) (described : List Column) (columns : List ℕ) (old new : Converter) (tables : Tables) (summary : Summary) (profile : ProfileValue)
    → lists_in old ≡ lists → HasHeading described (map (valued_entry lists) keys) columns (tables_in old) → IsCached old → AddsEntries old columns (map (valued_entry (lists_in old)) keys) new
    → sum_by entry_samples keys < 2 ^ 63 → sum_by entry_weight keys < 2 ^ 63 → Extends (tables_in new) tables → Builds tables summary profile
    → CountsSamples entry_key entry_samples entry_weight described (map (valued_entry lists) keys) profile
converted lists keys described columns old new tables summary profile same head cached adds samples weights extends builds =
    let entries : List Entry = map (valued_entry lists) keys in
    let added : AddsEntries old columns entries new = subst (λ (l : Lists). AddsEntries old columns (map (valued_entry l) keys) new) same adds in
    let all_samples = sum_by_map (valued_entry lists) entry_samples entry_samples keys (λ e. refl) in
    let all_weights = sum_by_map (valued_entry lists) entry_weight entry_weight keys (λ e. refl) in
    let fit = entries_fit columns entries (omega (arith, all_samples, samples)) (omega (arith, all_weights, weights)) in
    let rows = rows_kept (tables_in new) tables columns entries extends.keeps extends.samples (added.rows cached head.once head.none fit) in
    let keeps = keeps_trans (tables_in old) (tables_in new) tables (added.keeps cached) extends.keeps in
    samples_counted tables summary profile described entries columns builds (keeps.once head.once) (columns_kept (tables_in old) tables described entries columns keeps head.are_columns) rows
