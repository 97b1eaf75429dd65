-- Lemmas on the attributes that are written one after another.
use Rattle.std.proofs.Common.{◌≡◌, ℕ, zero, suc, ◌+◌, ◌<◌, ◌++◌, List, [], ◌∷◌, length, take, drop, refl, sym, ap, ◌∙◌, arith, inr, length-append, get_or}
use Rattle.std.specs.Prelude.{flat_map}
use Rattle.std.proofs.lemmas.List.{append-nil, take-append-drop, length-take-le}
use Rattle.std.proofs.lemmas.Grind.{flat_map-append, take_at_read}
use Rattle.perfdata_sections.specs.AttributeDescription.{ids_in}
use Rattle.perfdata_sections.specs.declared.feature_sections.AttributeDescription.{AttributeDescription}
use Rattle.perfdata_arrays.specs.Attrs.{ExceedsU64, WritesAttrsOrPrefix, WritesAttrs, all_ids, attr_entry_at, attr_entries_at, name_bytes, all_names}
use Rattle.linux_perf_data.specs.RecordEntries.{with_prefix}
use Rattle.perfdata_arrays.specs.Overwrites.{WritesOneMore, with_entries_at}
use Rattle.perfdata_arrays.specs.declared.attrs.Attr.{Attr}
use Rattle.perfdata_arrays.specs.declared.status.Status.{Status}
use Rattle.perfdata_arrays.specs.declared.status.Status.TheVariants.{OutOfMemory}
use Rattle.perfdata_arrays.proofs.OverwriteLemmas.{with_entries_at-with_prefix}

pub flat_map-snoc : {X : Type 0} (f : X → List ℕ) (xs : List X) (x : X) → flat_map f (xs ++ x ∷ []) ≡ flat_map f xs ++ f x
flat_map-snoc f xs x = flat_map-append f xs (x ∷ []) ∙ ap (λ l. flat_map f xs ++ l) (append-nil (f x))

-- the entries of one more attribute
attr_entries_at-snoc : (names ids : ℕ) (ds : List AttributeDescription) (d : AttributeDescription)
    → attr_entries_at names ids (ds ++ d ∷ []) ≡ attr_entries_at names ids ds ++ attr_entry_at (names + length (all_names ds)) (ids + length (all_ids ds)) d ∷ []
attr_entries_at-snoc names ids [] d = λ i. attr_entry_at (same names i) (same ids i) d ∷ []
  where
    same : (n : ℕ) → n ≡ n + 0
    same n = omega arith
attr_entries_at-snoc names ids (e ∷ ds) d =
    let n : (names + length (name_bytes e)) + length (all_names ds) ≡ names + length (all_names (e ∷ ds)) = omega (arith, length-append (name_bytes e) (all_names ds)) in
    let m : (ids + length (ids_in e)) + length (all_ids ds) ≡ ids + length (all_ids (e ∷ ds)) = omega (arith, length-append (ids_in e) (all_ids ds)) in
    ap (λ l. attr_entry_at names ids e ∷ l) (attr_entries_at-snoc (names + length (name_bytes e)) (ids + length (ids_in e)) ds d
    ∙ (λ i. attr_entries_at (names + length (name_bytes e)) (ids + length (ids_in e)) ds ++ attr_entry_at (n i) (m i) d ∷ []))

length-attr_entries_at : (names ids : ℕ) (ds : List AttributeDescription) → length (attr_entries_at names ids ds) ≡ length ds
length-attr_entries_at names ids [] = refl
length-attr_entries_at names ids (d ∷ ds) = ap (λ n. suc n) (length-attr_entries_at (names + length (name_bytes d)) (ids + length (ids_in d)) ds)

-- one more attribute is written
pub writes_attrs-snoc : (descriptions : List AttributeDescription) (d : AttributeDescription) (entries entries' new : List Attr) (names ids names' ids' new_names new_ids : List ℕ) (index name_offset ids_start : ℕ) (entry : Attr) (name own : List ℕ)
    → WritesAttrs descriptions entries names ids entries' names' ids' → index ≡ length descriptions → name_offset ≡ length (all_names descriptions) → ids_start ≡ length (all_ids descriptions)
    → entry ≡ attr_entry_at name_offset ids_start d → name ≡ name_bytes d → own ≡ ids_in d → WritesOneMore 0 index entry entries' new → new_names ≡ with_entries_at name_offset name names' → new_ids ≡ with_entries_at ids_start own ids'
    → WritesAttrs (descriptions ++ d ∷ []) entries names ids new new_names new_ids
writes_attrs-snoc descriptions d entries entries' new names ids names' ids' new_names new_ids index name_offset ids_start entry name own w counted names_counted ids_counted is name_is own_is one_more names_copied ids_copied =
    let names_at : name_offset ≡ 0 + length (all_names descriptions) = omega (arith, names_counted) in
    let ids_at : ids_start ≡ 0 + length (all_ids descriptions) = omega (arith, ids_counted) in
    record {
      entries_written = one_more (attr_entries_at 0 0 descriptions) entries (counted ∙ sym (length-attr_entries_at 0 0 descriptions)) w.entries_written
          ∙ ap (λ e. with_prefix (attr_entries_at 0 0 descriptions ++ e ∷ []) entries) (is ∙ (λ i. attr_entry_at (names_at i) (ids_at i) d)) ∙ ap (λ l. with_prefix l entries) (sym (attr_entries_at-snoc 0 0 descriptions d));
      names_written = names_copied ∙ (λ i. with_entries_at (names_counted i) (name_is i) (w.names_written i)) ∙ with_entries_at-with_prefix (all_names descriptions) (name_bytes d) names ∙ ap (λ l. with_prefix l names) (sym (flat_map-snoc name_bytes descriptions d));
      ids_written = ids_copied ∙ (λ i. with_entries_at (ids_counted i) (own_is i) (w.ids_written i)) ∙ with_entries_at-with_prefix (all_ids descriptions) (ids_in d) ids ∙ ap (λ l. with_prefix l ids) (sym (flat_map-snoc ids_in descriptions d));
    }

pub length-all_names-snoc : (descriptions : List AttributeDescription) (d : AttributeDescription) → length (all_names (descriptions ++ d ∷ [])) ≡ length (all_names descriptions) + length (name_bytes d)
length-all_names-snoc descriptions d = ap length (flat_map-snoc name_bytes descriptions d) ∙ length-append (all_names descriptions) (name_bytes d)

pub length-all_ids-snoc : (descriptions : List AttributeDescription) (d : AttributeDescription) → length (all_ids (descriptions ++ d ∷ [])) ≡ length (all_ids descriptions) + length (ids_in d)
length-all_ids-snoc descriptions d = ap length (flat_map-snoc ids_in descriptions d) ∙ length-append (all_ids descriptions) (ids_in d)

-- the prefix of written attributes, one longer
pub take-suc : (all : List AttributeDescription) (index : ℕ) (d : AttributeDescription) → index < length all → d ≡ get_or all index d → take (index + 1) all ≡ take index all ++ d ∷ []
take-suc all index d inside is = (take_at_read all index d inside).1 ∙ ap (λ e. take index all ++ e ∷ []) (sym is)

-- the next attribute is the first unwritten one
drop-suc : (all : List AttributeDescription) (index : ℕ) (d : AttributeDescription) → index < length all → d ≡ get_or all index d → drop index all ≡ d ∷ drop (suc index) all
drop-suc [] index d inside is = absurd (omega (arith, inside))
drop-suc (x ∷ all) zero d inside is = ap (λ e. e ∷ all) (sym is)
drop-suc (x ∷ all) (suc index) d inside is = drop-suc all index d (omega (arith, inside)) is

-- a prefix of the attributes is written if the end of the next doesn't fit in 64 bits
pub writes_prefix : (all : List AttributeDescription) (status : Status) (entries entries' : List Attr) (names ids names' ids' : List ℕ) (index name_offset ids_start : ℕ) (d : AttributeDescription) → index < length all → d ≡ get_or all index d → ExceedsU64 name_offset ids_start d → name_offset ≡ length (all_names (take index all)) → ids_start ≡ length (all_ids (take index all))
    → WritesAttrs (take index all) entries names ids entries' names' ids' → WritesAttrsOrPrefix all status entries names ids (record { totals = record { attr_count = index; names_size = name_offset; ids_count = ids_start }; status = OutOfMemory }) entries' names' ids'
writes_prefix all status entries entries' names ids names' ids' index name_offset ids_start d within is uncounted names_counted ids_counted w = record {
  written = take index all;
  unwritten = drop index all;
  split = sym (take-append-drop index all);
  count = sym (length-take-le index all (omega (arith, within)));
  names_count = names_counted;
  ids_count = ids_counted;
  writes = w;
  ends = inr (refl, (d, (drop (suc index) all, drop-suc all index d within is, uncounted)));
}
