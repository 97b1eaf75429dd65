-- The samples of a profile for pprof as one more entry is added.
use Rattle.std.proofs.Common.{◌≡◌, ◌∙◌, ◌<◌, ◌≤◌, ◌-◌, ◌+◌, ◌^◌, ◌==◌, ◌⊎◌, inl, inr, ap, refl, sym, subst, arith, cond, min, ℕ, zero, suc, Bool, true, false, List, [], ◌∷◌, ◌++◌, get_or, length, replicate, slice_get, take, Option, None, Some}
use Rattle.std.proofs.lemmas.Bool.{cases_eq, eq-eqb, ne_eqb}
use Rattle.std.proofs.lemmas.List.{append-nil, length-replicate, take_all}
use Rattle.std.proofs.lemmas.List.Sums.{sum_by-cons, sum_by_push}
use Rattle.std.proofs.lemmas.Option.{get_or_from_slice_get, slice_get_cases, slice_get_within}
use Rattle.std.specs.List.{sum_by}
use Rattle.perfdata_profile.proofs.Adding.{sum_at_most, sum_none, sum_push, sum_skip}
use Rattle.perfdata_profile.proofs.Elements.{old_or_last, slice_get_last, slice_get_more, some_same}
use Rattle.perfdata_profile.proofs.Growing.{none_at, nothing}
use Rattle.perfdata_profile.specs.Sums.{entry_samples, entry_weight}
use Rattle.perfdata_profile.specs.Tallies.{IsSumOf}
use Rattle.perfdata_profile.specs.declared.sums.Sums.{Sums}
use Rattle.perfdata_views.specs.Entries.{Entry, entry_key}
use Rattle.perfdata_views.specs.PprofSamples.{IsIn, IsSampleOf, IsShown, ShownSample, added_by, added_to, shown_sample}
use Rattle.perfdata_views.specs.steps.PprofSamples.{AddsEntry, AreOnce, AreRows, Fit, Keeps}
use Rattle.perfdata_views.proofs.PprofTables.{extends_same, keeps_trans, one_shown, same_labels, same_locations, samples_keep, shown_kept}
use Rattle.pprof.specs.Samples.{AddsSamples, AddsToRow, AppendsRow, HasKey, Row, padded, raised, set_values, weighted}
use Rattle.pprof.specs.Tables.{Tables}
use Rattle.pprof.specs.declared.builder.WeightedSamples.{WeightedSamples}
use Rattle.pprof.specs.declared.profile.Label.{Label}

-- Values as numbers are added to them.
raised_length : (index number : ℕ) (values : List ℕ) → length (raised index number values) ≡ length values
raised_length index number [] = refl
raised_length zero number (value ∷ values) = refl
raised_length (suc index) number (value ∷ values) = ap (λ (n : ℕ). suc n) (raised_length index number values)

weighted_length : (weight : WeightedSamples) (values : List ℕ) → length (weighted weight values) ≡ length values
weighted_length weight values = raised_length weight.column weight.weight (raised 0 weight.samples values) ∙ raised_length 0 weight.samples values

abbrev after : Bool → ℕ → ℕ → ℕ
after is old number = cond is (min (old + number) (2 ^ 64 - 1)) old

not_zero : (n : ℕ) → (suc n == 0) ≡ false
not_zero n = ne_eqb (suc n) 0 (λ same. omega (arith, same))

zero_not : (n : ℕ) → (0 == suc n) ≡ false
zero_not n = ne_eqb 0 (suc n) (λ same. omega (arith, same))

both_suc : (n m : ℕ) → (suc n == suc m) ≡ (n == m)
both_suc n m = elim (cases_eq n m) [
  | inl same ↦ eq-eqb (suc n) (suc m) (ap (λ (k : ℕ). suc k) same) ∙ sym (eq-eqb n m same)
  | inr apart ↦ ne_eqb (suc n) (suc m) (λ same. apart (omega (arith, same))) ∙ sym (ne_eqb n m apart)
]

raised_at : (index number : ℕ) (values : List ℕ) (at value : ℕ) → slice_get (raised index number values) at ≡ Some value
    → ((old : ℕ) × (slice_get values at ≡ Some old) × (value ≡ after (at == index) old number))
raised_at index number [] at value is = cc
raised_at zero number (v ∷ values) zero value is = (v, refl, sym (some_same (min (v + number) (2 ^ 64 - 1)) value is))
raised_at zero number (v ∷ values) (suc at) value is = (value, is, sym (ap (λ (here : Bool). after here value number) (not_zero at)))
raised_at (suc index) number (v ∷ values) zero value is =
    (v, refl, sym (some_same v value is) ∙ sym (ap (λ (here : Bool). after here v number) (zero_not index)))
raised_at (suc index) number (v ∷ values) (suc at) value is =
    let rest = raised_at index number values at value is in
    (rest.0, rest.1, rest.2 ∙ sym (ap (λ (here : Bool). after here rest.0 number) (both_suc at index)))

added_value : (first own : Bool) (samples weight old middle value : ℕ) → old + (cond first samples 0 + cond own weight 0) < 2 ^ 64 → middle ≡ after first old samples
    → value ≡ after own middle weight → value ≡ old + (cond first samples 0 + cond own weight 0)
added_value true true samples weight old middle value fits more most = omega (arith, fits, more, most)
added_value true false samples weight old middle value fits more most = omega (arith, fits, more, most)
added_value false true samples weight old middle value fits more most = omega (arith, fits, more, most)
added_value false false samples weight old middle value fits more most = omega (arith, fits, more, most)

-- A value after a weight is added is the one before with what is added to it, if that fits.
weighted_at : (weight : WeightedSamples) (values : List ℕ) (at value : ℕ) → slice_get (weighted weight values) at ≡ Some value
    → ((old : ℕ) × (slice_get values at ≡ Some old) × (old + added_to at weight.column weight.samples weight.weight < 2 ^ 64 → value ≡ old + added_to at weight.column weight.samples weight.weight))
weighted_at weight values at value is =
    let last = raised_at weight.column weight.weight (raised 0 weight.samples values) at value is in
    let first = raised_at 0 weight.samples values at last.0 last.1 in (
      first.0,
      first.1,
      λ fits. added_value (at == 0) (at == weight.column) weight.samples weight.weight first.0 last.0 value fits first.2 last.2,
    )

pub padded_same : (count : ℕ) (values : List ℕ) → length values ≡ count → padded count values ≡ values
padded_same count values is =
    let whole : take count values ≡ values = take_all count values (omega (arith, is)) in
    let none : count - length values ≡ 0 = omega (arith, is) in
    ap (λ (taken : List ℕ). taken ++ replicate (count - length values) 0) whole ∙ ap (λ (n : ℕ). values ++ replicate n 0) none ∙ append-nil values

pub zeros_at : (count at value : ℕ) → slice_get (replicate count 0) at ≡ Some value → value ≡ 0
zeros_at zero at value is = cc
zeros_at (suc count) zero value is = sym (some_same 0 value is)
zeros_at (suc count) (suc at) value is = zeros_at count at value is

-- Rows of which one gets other values.
abbrev with_values : Row → List ℕ → Row
with_values row values = record { location_ids = row.location_ids; labels = row.labels; values = values }

set_here : (rows : List Row) (index : ℕ) (row : Row) (values : List ℕ) → slice_get rows index ≡ Some row → slice_get (set_values rows index values) index ≡ Some (with_values row values)
set_here [] index row values at = cc
set_here (r ∷ rows) zero row values at = ap (λ (o : Row). Some (with_values o values)) (some_same r row at)
set_here (r ∷ rows) (suc index) row values at = set_here rows index row values at

set_elsewhere : (rows : List Row) (index other : ℕ) (values : List ℕ) → (other ≡ index → ⊥) → slice_get (set_values rows index values) other ≡ slice_get rows other
set_elsewhere [] index other values apart = refl
set_elsewhere (r ∷ rows) zero zero values apart = absurd (apart refl)
set_elsewhere (r ∷ rows) zero (suc other) values apart = refl
set_elsewhere (r ∷ rows) (suc index) zero values apart = refl
set_elsewhere (r ∷ rows) (suc index) (suc other) values apart = set_elsewhere rows index other values (λ same. apart (ap (λ (n : ℕ). suc n) same))

-- The row that had the place of one before others got values.
was_at : (rows : List Row) (index at : ℕ) (values : List ℕ) (row : Row) → slice_get (set_values rows index values) at ≡ Some row
    → ((old : Row) × (slice_get rows at ≡ Some old) × (row.labels ≡ old.labels) × (row.location_ids ≡ old.location_ids))
was_at [] index at values row is = cc
was_at (r ∷ rows) zero zero values row is =
    let same = some_same (with_values r values) row is in
    (r, refl, sym (ap (λ (o : Row). o.labels) same), sym (ap (λ (o : Row). o.location_ids) same))
was_at (r ∷ rows) zero (suc at) values row is = (row, is, refl, refl)
was_at (r ∷ rows) (suc index) zero values row is = (r, refl, sym (ap (λ (o : Row). o.labels) (some_same r row is)), sym (ap (λ (o : Row). o.location_ids) (some_same r row is)))
was_at (r ∷ rows) (suc index) (suc at) values row is = was_at rows index at values row is

now_at : (rows : List Row) (index at : ℕ) (values : List ℕ) (row : Row) → slice_get rows at ≡ Some row
    → ((new : Row) × (slice_get (set_values rows index values) at ≡ Some new) × (row.labels ≡ new.labels) × (row.location_ids ≡ new.location_ids))
now_at [] index at values row is = cc
now_at (r ∷ rows) zero zero values row is =
    let same = some_same r row is in
    (with_values r values, refl, sym (ap (λ (o : Row). o.labels) same), sym (ap (λ (o : Row). o.location_ids) same))
now_at (r ∷ rows) zero (suc at) values row is = (row, is, refl, refl)
now_at (r ∷ rows) (suc index) zero values row is = (r, refl, sym (ap (λ (o : Row). o.labels) (some_same r row is)), sym (ap (λ (o : Row). o.location_ids) (some_same r row is)))
now_at (r ∷ rows) (suc index) (suc at) values row is = now_at rows index at values row is

abbrev IsSample : List ℕ → Tables → List Entry → Row → Type 0
IsSample columns tables entries row = IsSampleOf entry_key entry_samples entry_weight columns tables entries row.location_ids row.labels row.values

abbrev IsEntryIn : List ℕ → ShownSample → Entry → Type 0
IsEntryIn columns shown entry = IsIn entry_key entry_samples entry_weight columns shown entry

abbrev added_entry : List ℕ → ℕ → Entry → ℕ
added_entry columns index entry = added_by entry_key entry_samples entry_weight columns index entry

shown_row : (tables : Tables) (ids others : List ℕ) (labels values : List Label) (shown : ShownSample) → ids ≡ others → labels ≡ values → IsShown tables ids labels shown → IsShown tables others values shown
shown_row tables ids others labels values shown same also is =
    subst (λ (l : List Label). IsShown tables others l shown) also (subst (λ (i : List ℕ). IsShown tables i labels shown) same is)

-- The samples stay those of the entries as other rows are appended.
pub rows_kept : (old new : Tables) (columns : List ℕ) (entries : List Entry) → Keeps old new → new.samples ≡ old.samples → AreRows old columns entries → AreRows new columns entries
rows_kept old new columns entries keeps same rows = record {
  each = λ at row is.
      let was = rows.each at row (ap (λ (rs : List Row). slice_get rs at) (sym same) ∙ is) in record {
        shown = was.shown;
        is_shown = shown_kept old new keeps row.location_ids row.labels was.shown was.is_shown;
        is_own = was.is_own;
        number = was.number ∙ ap length (sym keeps.types);
        sums = was.sums;
      };
  all = λ index entry is within.
      let was = rows.all index entry is within in (
        was.0,
        was.1,
        ap (λ (rs : List Row). slice_get rs was.0) same ∙ was.2,
        shown_kept old new keeps was.1.location_ids was.1.labels (shown_sample entry.0) was.3,
      );
  once = λ first second row other is also.
      rows.once first second row other (ap (λ (rs : List Row). slice_get rs first) (sym same) ∙ is) (ap (λ (rs : List Row). slice_get rs second) (sym same) ∙ also);
}

-- An entry of a column that isn't described changes no sample.
passed : (tables : Tables) (columns : List ℕ) (entries : List Entry) (entry : Entry) → length columns ≤ entry.0.column → AreRows tables columns entries → AreRows tables columns (entries ++ entry ∷ [])
passed tables columns entries entry past rows = record {
  each = λ at row is.
      let was = rows.each at row is in record {
        shown = was.shown;
        is_shown = was.is_shown;
        is_own = (was.is_own.0, was.is_own.1, slice_get_more entries (entry ∷ []) was.is_own.0 was.is_own.1 was.is_own.2, was.is_own.3);
        number = was.number;
        sums = λ index value there.
            sum_skip (IsEntryIn columns was.shown) (added_entry columns index) entries value entry (λ own. omega (arith, past, own.0)) (was.sums index value there);
      };
  all = λ index one is within. elim (old_or_last entries entry index one is) [
    | inl old ↦ rows.all index one old within
    | inr last ↦
        let here : one.0.column ≡ entry.0.column = ap (λ (e : Entry). e.0.column) last.1 in
        absurd (omega (arith, past, within, here))
  ];
  once = rows.once;
}

-- An entry of a column is added to the sample with its locations and labels.
module _ (tables new : Tables) (once : AreOnce tables) (columns : List ℕ) (entries : List Entry) (entry : Entry) (column : ℕ) (rows : AreRows tables columns entries) (within : entry.0.column < length columns) (column_is : get_or columns entry.0.column 0 ≡ column) (ids : List ℕ) (labels : List Label) (is_shown : IsShown tables ids labels (shown_sample entry.0)) (new_is : new ≡ record tables { samples = new.samples }) (fit : Fit columns (entries ++ entry ∷ [])) where
  abbrev all_entries : List Entry
  all_entries = entries ++ entry ∷ []

  abbrev weight : WeightedSamples
  weight = record { samples = entry.1.samples; column = column; weight = entry.1.weight }

  keeps : Keeps tables new
  keeps = samples_keep tables new new.samples new_is

  added_is : (index : ℕ) → added_to index column entry.1.samples entry.1.weight ≡ added_entry columns index entry
  added_is index = ap (λ (c : ℕ). added_to index c entry.1.samples entry.1.weight) (sym column_is)

  own_after : (index : ℕ) (one : Entry) → slice_get entries index ≡ Some one → slice_get all_entries index ≡ Some one
  own_after index one at = slice_get_more entries (entry ∷ []) index one at

  -- Rows with the locations and labels of the entry have its ids.
  has_key : (row : Row) (shown : ShownSample) → IsShown tables row.location_ids row.labels shown → shown_sample entry.0 ≡ shown → HasKey labels ids row
  has_key row shown is same =
      let own : IsShown tables ids labels shown = subst (IsShown tables ids labels) same is_shown in record {
        labels_are = same_labels tables once row.labels labels shown.labels is.labels_are own.labels_are;
        location_ids_are = same_locations tables once row.location_ids ids shown.locations is.locations own.locations;
      }

  -- A sample that isn't the entry's stays.
  other_sample : (row : Row) → IsSample columns tables entries row → (HasKey labels ids row → ⊥) → IsSample columns new all_entries row
  other_sample row was apart = record {
    shown = was.shown;
    is_shown = shown_kept tables new keeps row.location_ids row.labels was.shown was.is_shown;
    is_own = (was.is_own.0, was.is_own.1, own_after was.is_own.0 was.is_own.1 was.is_own.2, was.is_own.3);
    number = was.number ∙ ap length (sym keeps.types);
    sums = λ index value there.
        sum_skip (IsEntryIn columns was.shown) (added_entry columns index) entries value entry (λ own. apart (has_key row was.shown was.is_shown own.1)) (was.sums index value there);
  }

  module _ (adds : AddsToRow (length tables.types) tables.samples labels ids weight new.samples) where
    abbrev values : List ℕ
    values = weighted weight (padded (length tables.types) adds.row.values)

    own_sample : IsSample columns new all_entries (with_values adds.row values)
    own_sample =
        let was = rows.each adds.index adds.row adds.is_at in
        let key = adds.has_key in
        let mine = shown_row tables ids adds.row.location_ids labels adds.row.labels (shown_sample entry.0) (sym key.location_ids_are) (sym key.labels_are) is_shown in
        let same : shown_sample entry.0 ≡ was.shown = one_shown tables adds.row.location_ids adds.row.labels (shown_sample entry.0) was.shown mine was.is_shown in
        let whole = padded_same (length tables.types) adds.row.values was.number in
        record {
          shown = was.shown;
          is_shown = shown_kept tables new keeps adds.row.location_ids adds.row.labels was.shown was.is_shown;
          is_own = (was.is_own.0, was.is_own.1, own_after was.is_own.0 was.is_own.1 was.is_own.2, was.is_own.3);
          number = weighted_length weight (padded (length tables.types) adds.row.values) ∙ ap length whole ∙ was.number ∙ ap length (sym keeps.types);
          sums = λ index value there.
              let last = weighted_at weight adds.row.values index value (ap (λ (vs : List ℕ). slice_get (weighted weight vs) index) (sym whole) ∙ there) in
              let sum = sum_push (IsEntryIn columns was.shown) (added_entry columns index) entries last.0 entry (within, same) (was.sums index last.0 last.1) in
              let more = added_is index in
              let most = sum_at_most (IsEntryIn columns was.shown) (added_entry columns index) all_entries (last.0 + added_entry columns index entry) sum in
              let fits = fit index in
              let value_is = last.2 (omega (arith, more, most, fits)) in
              subst (IsSumOf (IsEntryIn columns was.shown) (added_entry columns index) all_entries) (omega (arith, value_is, more)) sum;
        }

    raised_rows : AreRows new columns all_entries
    raised_rows = record {
      each = λ at row is.
          let there : slice_get (set_values tables.samples adds.index values) at ≡ Some row = ap (λ (rs : List Row). slice_get rs at) (sym adds.new_is) ∙ is in
          elim (cases_eq at adds.index) [
            | inl same ↦
                let here = set_here tables.samples adds.index adds.row values adds.is_at in
                let row_is : with_values adds.row values ≡ row = some_same (with_values adds.row values) row (sym here ∙ ap (slice_get (set_values tables.samples adds.index values)) (sym same) ∙ there) in
                subst (IsSample columns new all_entries) row_is own_sample
            | inr apart ↦
                let old = sym (set_elsewhere tables.samples adds.index at values apart) ∙ there in
                other_sample row (rows.each at row old) (λ key. apart (rows.once at adds.index row adds.row old adds.is_at
                (key.labels_are ∙ sym adds.has_key.labels_are) (key.location_ids_are ∙ sym adds.has_key.location_ids_are)))
          ];
      all = λ index one is fits. elim (old_or_last entries entry index one is) [
        | inl old ↦
            let was = rows.all index one old fits in
            let now = now_at tables.samples adds.index was.0 values was.1 was.2 in (
              was.0,
              now.0,
              ap (λ (rs : List Row). slice_get rs was.0) adds.new_is ∙ now.1,
              shown_kept tables new keeps now.0.location_ids now.0.labels (shown_sample one.0)
                  (shown_row tables was.1.location_ids now.0.location_ids was.1.labels now.0.labels (shown_sample one.0) now.3 now.2 was.3),
            )
        | inr last ↦
            let now = now_at tables.samples adds.index adds.index values adds.row adds.is_at in
            let key = adds.has_key in
            let mine : IsShown tables ids labels (shown_sample one.0) = subst (λ (e : Entry). IsShown tables ids labels (shown_sample e.0)) (sym last.1) is_shown in (
              adds.index,
              now.0,
              ap (λ (rs : List Row). slice_get rs adds.index) adds.new_is ∙ now.1,
              shown_kept tables new keeps now.0.location_ids now.0.labels (shown_sample one.0)
                  (shown_row tables ids now.0.location_ids labels now.0.labels (shown_sample one.0) (sym key.location_ids_are ∙ now.3) (sym key.labels_are ∙ now.2) mine),
            )
      ];
      once = λ first second row other is also same alike.
          let was = was_at tables.samples adds.index first values row (ap (λ (rs : List Row). slice_get rs first) (sym adds.new_is) ∙ is) in
          let too = was_at tables.samples adds.index second values other (ap (λ (rs : List Row). slice_get rs second) (sym adds.new_is) ∙ also) in
          rows.once first second was.0 too.0 was.1 too.1 (sym was.2 ∙ same ∙ too.2) (sym was.3 ∙ alike ∙ too.3);
    }

  module _ (appends : AppendsRow (length tables.types) tables.samples labels ids weight new.samples) where
    abbrev added : Row
    added = record { location_ids = ids; labels = labels; values = weighted weight (replicate (length tables.types) 0) }

    -- No entry has the locations and labels of the new one.
    none_before : (index : ℕ) (one : Entry) → slice_get entries index ≡ Some one → IsEntryIn columns (shown_sample entry.0) one → ⊥
    none_before index one at own =
        let was = rows.all index one at own.0 in
        appends.none_has_key was.0 was.1 was.2 (has_key was.1 (shown_sample one.0) was.3 (sym own.1))

    first_sample : IsSample columns new all_entries added
    first_sample = record {
      shown = shown_sample entry.0;
      is_shown = shown_kept tables new keeps ids labels (shown_sample entry.0) is_shown;
      is_own = (length entries, entry, slice_get_last entries entry, (within, refl));
      number = weighted_length weight (replicate (length tables.types) 0) ∙ length-replicate {A = ℕ} (length tables.types) 0 ∙ ap length (sym keeps.types);
      sums = λ index value there.
          let last = weighted_at weight (replicate (length tables.types) 0) index value there in
          let zero_is = zeros_at (length tables.types) index last.0 last.1 in
          let sum = sum_push (IsEntryIn columns (shown_sample entry.0)) (added_entry columns index) entries 0 entry (within, refl)
          (sum_none (IsEntryIn columns (shown_sample entry.0)) (added_entry columns index) entries none_before) in
          let more = added_is index in
          let most = sum_at_most (IsEntryIn columns (shown_sample entry.0)) (added_entry columns index) all_entries (0 + added_entry columns index entry) sum in
          let fits = fit index in
          let value_is = last.2 (omega (arith, zero_is, more, most, fits)) in
          subst (IsSumOf (IsEntryIn columns (shown_sample entry.0)) (added_entry columns index) all_entries) (omega (arith, zero_is, value_is, more)) sum;
    }

    abbrev in_old : (at : ℕ) (row : Row) → slice_get new.samples at ≡ Some row → (slice_get tables.samples at ≡ Some row) ⊎ ((at ≡ length tables.samples) × (row ≡ added))
    in_old at row is = old_or_last tables.samples added at row (ap (λ (rs : List Row). slice_get rs at) (sym appends.new_is) ∙ is)

    appended_rows : AreRows new columns all_entries
    appended_rows = record {
      each = λ at row is. elim (in_old at row is) [
        | inl old ↦ other_sample row (rows.each at row old) (appends.none_has_key at row old)
        | inr last ↦ subst (IsSample columns new all_entries) (sym last.1) first_sample
      ];
      all = λ index one is fits. elim (old_or_last entries entry index one is) [
        | inl old ↦
            let was = rows.all index one old fits in (
              was.0,
              was.1,
              ap (λ (rs : List Row). slice_get rs was.0) appends.new_is ∙ slice_get_more tables.samples (added ∷ []) was.0 was.1 was.2,
              shown_kept tables new keeps was.1.location_ids was.1.labels (shown_sample one.0) was.3,
            )
        | inr last ↦
            let mine : IsShown tables ids labels (shown_sample one.0) = subst (λ (e : Entry). IsShown tables ids labels (shown_sample e.0)) (sym last.1) is_shown in (
              length tables.samples,
              added,
              ap (λ (rs : List Row). slice_get rs (length tables.samples)) appends.new_is ∙ slice_get_last tables.samples added,
              shown_kept tables new keeps ids labels (shown_sample one.0) mine,
            )
      ];
      once = λ first second row other is also same alike. elim (in_old first row is) [
        | inl was ↦ elim (in_old second other also) [
          | inl too ↦ rows.once first second row other was too same alike
          | inr last ↦ absurd (appends.none_has_key first row was (record {
            labels_are = same ∙ ap (λ (r : Row). r.labels) last.1;
            location_ids_are = alike ∙ ap (λ (r : Row). r.location_ids) last.1;
          }))
        ]
        | inr last ↦ elim (in_old second other also) [
          | inl too ↦ absurd (appends.none_has_key second other too (record {
            labels_are = sym same ∙ ap (λ (r : Row). r.labels) last.1;
            location_ids_are = sym alike ∙ ap (λ (r : Row). r.location_ids) last.1;
          }))
          | inr both ↦ last.0 ∙ sym both.0
        ]
      ];
    }

  described_rows : AddsSamples (length tables.types) tables.samples labels ids weight new.samples → AreRows new columns all_entries
  described_rows adds = elim adds [
    | inl raises ↦ raised_rows raises
    | inr appends ↦ appended_rows appends
  ]

-- The samples are those of one more entry.
pub entry_more : (old new : Tables) (columns : List ℕ) (entries : List Entry) (entry : Entry) → AreOnce old
    → AddsEntry old (shown_sample entry.0) entry.1 (slice_get columns entry.0.column) new → Fit columns (entries ++ entry ∷ []) → AreRows old columns entries → AreRows new columns (entries ++ entry ∷ [])
entry_more old new columns entries entry once adds fit rows = by (slice_get columns entry.0.column) refl adds
  where
    by : (column : Option ℕ) → slice_get columns entry.0.column ≡ column → AddsEntry old (shown_sample entry.0) entry.1 column new → AreRows new columns (entries ++ entry ∷ [])
    by None none same = elim (slice_get_cases columns entry.0.column).1 [
      | inl there ↦ absurd (nothing there.0 (sym none ∙ there.2))
      | inr past ↦ subst (λ (t : Tables). AreRows t columns (entries ++ entry ∷ [])) (sym same) (passed old columns entries entry past.0 rows)
    ]
    by (Some column) at more =
        let kept = rows_kept old more.between columns entries more.extends.keeps more.extends.samples rows in
        described_rows more.between new (more.extends.keeps.once once) columns entries entry column kept (slice_get_within columns entry.0.column column at)
        (get_or_from_slice_get columns entry.0.column column 0 at) more.location_ids more.labels more.is_shown more.new_is fit more.adds

pub entry_keeps : (old new : Tables) (shown : ShownSample) (sums : Sums) (column : Option ℕ) → AddsEntry old shown sums column new → Keeps old new
entry_keeps old new shown sums None same = subst (Keeps old) (sym same) (extends_same old).keeps
entry_keeps old new shown sums (Some column) more = keeps_trans old more.between new more.extends.keeps (samples_keep more.between new new.samples more.new_is)

-- No entries, and no samples.
pub rows_none : (tables : Tables) (columns : List ℕ) → tables.samples ≡ [] → AreRows tables columns []
rows_none tables columns none = record {
  each = λ at row is. absurd (none_at tables.samples none at row is);
  all = λ index entry is within. absurd (none_at [] refl index entry is);
  once = λ first second row other is also same alike. absurd (none_at tables.samples none first row is);
}

-- Fewer entries fit too.
pub fit_less : (columns : List ℕ) (entries : List Entry) (entry : Entry) → Fit columns (entries ++ entry ∷ []) → Fit columns entries
fit_less columns entries entry fit = λ index.
    let fits = fit index in
    let more = sum_by_push (added_entry columns index) entries entry in
    omega (arith, fits, more)

-- What is added to a value is at most the number of samples and their weight.
added_at_most : (first own : Bool) (samples weight : ℕ) → cond first samples 0 + cond own weight 0 ≤ samples + weight
added_at_most true true samples weight = omega arith
added_at_most true false samples weight = omega arith
added_at_most false true samples weight = omega arith
added_at_most false false samples weight = omega arith

sum_at_most_both : (columns : List ℕ) (index : ℕ) (entries : List Entry) → sum_by (added_entry columns index) entries ≤ sum_by entry_samples entries + sum_by entry_weight entries
sum_at_most_both columns index [] = omega arith
sum_at_most_both columns index (e ∷ es) =
    let rest = sum_at_most_both columns index es in
    let here = added_at_most (index == 0) (index == get_or columns e.0.column 0) e.1.samples e.1.weight in
    let sum = sum_by-cons (added_entry columns index) e es in
    let samples = sum_by-cons entry_samples e es in
    let weights = sum_by-cons entry_weight e es in
    omega (arith, rest, here, sum, samples, weights)

-- The entries fit if both sums are below 2^63.
pub entries_fit : (columns : List ℕ) (entries : List Entry) → sum_by entry_samples entries < 2 ^ 63 → sum_by entry_weight entries < 2 ^ 63 → Fit columns entries
entries_fit columns entries samples weights = λ index. let most = sum_at_most_both columns index entries in omega (arith, most, samples, weights)
