-- The samples of a profile for pprof as sums of the samples of a recording.
use Rattle.std.proofs.Common.{◌≡◌, ◌∙◌, ◌<◌, ◌+◌, ◌&&◌, ◌==◌, ◌⊎◌, inl, inr, ap, refl, sym, subst, arith, cond, true≢false, ℕ, Bool, true, false, List, [], ◌∷◌, length, nat_lt, get_or, Option, None, Some}
use Rattle.std.proofs.lemmas.Bool.Decides.{Decides-and, Decides-eqb, Decides-ltb}
use Rattle.std.proofs.lemmas.List.Sums.{sum_by-cons}
use Rattle.std.proofs.lemmas.Slice.Eq.{slice_eq-Decides}
use Rattle.std.specs.Bool.{Decides}
use Rattle.std.specs.Cmp.Lexicographic.{pointwise}
use Rattle.std.specs.List.{sum_by}
use Rattle.perfdata_profile.proofs.Elements.{some_same}
use Rattle.perfdata_profile.specs.Sums.{entry_samples, entry_weight}
use Rattle.perfdata_profile.specs.Tallies.{Counted, IsSumOf, Tallies, one_sample, weight_of}
use Rattle.perfdata_profile.specs.Values.{LineValue, LocationValue, RangeValue, SampleValue}
use Rattle.perfdata_views.specs.Entries.{Entry, entry_key}
use Rattle.perfdata_views.specs.PprofSamples.{CountsSamples, IsIn, LabelValue, ShownSample, added_by, counted_key, shown_sample}
use Rattle.perfdata_views.specs.declared.pprof_profile.Column.{Column}
use Rattle.perfdata_views.proofs.Regrouping.{entries_regroup, samples_regroup}
use Rattle.pprof.specs.Messages.{ProfileValue}

-- Whether two samples have the same locations and labels.
abbrev eq_number : ℕ → ℕ → Bool
eq_number a b = a == b

abbrev eq_text : List ℕ → List ℕ → Bool
eq_text a b = pointwise eq_number a b

text_decides : (a b : List ℕ) → Decides (eq_text a b) (a ≡ b)
text_decides a b = slice_eq-Decides Decides-eqb a b (pointwise eq_number a b) refl

abbrev eq_range : RangeValue → RangeValue → Bool
eq_range a b = (a.start == b.start) && ((a.end == b.end) && ((a.page_offset == b.page_offset) && (eq_text a.path b.path && eq_text a.build_id b.build_id)))

range_decides : (a b : RangeValue) → Decides (eq_range a b) (a ≡ b)
range_decides a b =
    let texts = Decides-and (eq_text a.path b.path) (eq_text a.build_id b.build_id) (text_decides a.path b.path) (text_decides a.build_id b.build_id) in
    let offset = Decides-and (a.page_offset == b.page_offset) (eq_text a.path b.path && eq_text a.build_id b.build_id) (Decides-eqb a.page_offset b.page_offset) texts in
    let end = Decides-and (a.end == b.end) ((a.page_offset == b.page_offset) && (eq_text a.path b.path && eq_text a.build_id b.build_id)) (Decides-eqb a.end b.end) offset in
    let all = Decides-and (a.start == b.start) ((a.end == b.end) && ((a.page_offset == b.page_offset) && (eq_text a.path b.path && eq_text a.build_id b.build_id))) (Decides-eqb a.start b.start) end in (
      (λ is. let p = all.0 is in λ i. record { start = p.0 i; end = p.1.0 i; page_offset = p.1.1.0 i; path = p.1.1.1.0 i; build_id = p.1.1.1.1 i }),
      (λ is. all.1 (
        ap (λ (r : RangeValue). r.start) is,
        (
          ap (λ (r : RangeValue). r.end) is,
          (
            ap (λ (r : RangeValue). r.page_offset) is,
            (ap (λ (r : RangeValue). r.path) is, ap (λ (r : RangeValue). r.build_id) is),
          ),
        ),
      )),
    )

abbrev eq_file : Option RangeValue → Option RangeValue → Bool
eq_file None None = true
eq_file (Some a) (Some b) = eq_range a b
eq_file _ _ = false

file_decides : (a b : Option RangeValue) → Decides (eq_file a b) (a ≡ b)
file_decides None None = (λ is. refl, λ is. refl)
file_decides None (Some b) = (λ is. absurd (true≢false (sym is)), λ is. cc)
file_decides (Some a) None = (λ is. absurd (true≢false (sym is)), λ is. cc)
file_decides (Some a) (Some b) =
    let parts = range_decides a b in
    (λ is. ap (λ (r : RangeValue). Some r) (parts.0 is), λ is. parts.1 (some_same a b is))

abbrev eq_line : LineValue → LineValue → Bool
eq_line a b = eq_text a.function b.function && (eq_text a.file b.file && (a.line == b.line))

line_decides : (a b : LineValue) → Decides (eq_line a b) (a ≡ b)
line_decides a b =
    let file = Decides-and (eq_text a.file b.file) (a.line == b.line) (text_decides a.file b.file) (Decides-eqb a.line b.line) in
    let all = Decides-and (eq_text a.function b.function) (eq_text a.file b.file && (a.line == b.line)) (text_decides a.function b.function) file in (
      (λ is. let p = all.0 is in λ i. record { function = p.0 i; file = p.1.0 i; line = p.1.1 i }),
      (λ is. all.1 (ap (λ (l : LineValue). l.function) is, (ap (λ (l : LineValue). l.file) is, ap (λ (l : LineValue). l.line) is))),
    )

abbrev eq_lines : List LineValue → List LineValue → Bool
eq_lines a b = pointwise eq_line a b

lines_decide : (a b : List LineValue) → Decides (eq_lines a b) (a ≡ b)
lines_decide a b = slice_eq-Decides line_decides a b (pointwise eq_line a b) refl

abbrev eq_location : LocationValue → LocationValue → Bool
eq_location a b = eq_file a.mapping b.mapping && ((a.address == b.address) && eq_lines a.lines b.lines)

location_decides : (a b : LocationValue) → Decides (eq_location a b) (a ≡ b)
location_decides a b =
    let address = Decides-and (a.address == b.address) (eq_lines a.lines b.lines) (Decides-eqb a.address b.address) (lines_decide a.lines b.lines) in
    let all = Decides-and (eq_file a.mapping b.mapping) ((a.address == b.address) && eq_lines a.lines b.lines) (file_decides a.mapping b.mapping) address in (
      (λ is. let p = all.0 is in λ i. record { mapping = p.0 i; address = p.1.0 i; lines = p.1.1 i }),
      (λ is. all.1 (ap (λ (l : LocationValue). l.mapping) is, (ap (λ (l : LocationValue). l.address) is, ap (λ (l : LocationValue). l.lines) is))),
    )

abbrev eq_label : LabelValue → LabelValue → Bool
eq_label a b = eq_text a.key b.key && (eq_text a.text b.text && (a.number == b.number))

label_decides : (a b : LabelValue) → Decides (eq_label a b) (a ≡ b)
label_decides a b =
    let text = Decides-and (eq_text a.text b.text) (a.number == b.number) (text_decides a.text b.text) (Decides-eqb a.number b.number) in
    let all = Decides-and (eq_text a.key b.key) (eq_text a.text b.text && (a.number == b.number)) (text_decides a.key b.key) text in (
      (λ is. let p = all.0 is in λ i. record { key = p.0 i; text = p.1.0 i; number = p.1.1 i }),
      (λ is. all.1 (ap (λ (l : LabelValue). l.key) is, (ap (λ (l : LabelValue). l.text) is, ap (λ (l : LabelValue). l.number) is))),
    )

abbrev eq_shown : ShownSample → ShownSample → Bool
eq_shown a b = pointwise eq_location a.locations b.locations && pointwise eq_label a.labels b.labels

shown_decides : (a b : ShownSample) → Decides (eq_shown a b) (a ≡ b)
shown_decides a b =
    let locations = slice_eq-Decides location_decides a.locations b.locations (pointwise eq_location a.locations b.locations) refl in
    let labels = slice_eq-Decides label_decides a.labels b.labels (pointwise eq_label a.labels b.labels) refl in
    let all = Decides-and (pointwise eq_location a.locations b.locations) (pointwise eq_label a.labels b.labels) locations labels in (
      (λ is. let p = all.0 is in λ i. record { locations = p.0 i; labels = p.1 i }),
      (λ is. all.1 (ap (λ (s : ShownSample). s.locations) is, ap (λ (s : ShownSample). s.labels) is)),
    )

-- A sum of what passes a test.
module _ {A : Type 0} (holds : A → Type 0) (test : A → Bool) (weight : A → ℕ) (decides : (x : A) → Decides (test x) (holds x)) where
  abbrev part : A → ℕ
  part x = cond (test x) (weight x) 0

  not_true : (x : A) → (holds x → ⊥) → test x ≡ false
  not_true x not = by (test x) refl
    where
      by : (b : Bool) → test x ≡ b → test x ≡ false
      by true is = absurd (not ((decides x).0 is))
      by false is = is

  sum_is : (xs : List A) (sum : ℕ) → IsSumOf holds weight xs sum → sum ≡ sum_by part xs
  sum_is [] sum is = is
  sum_is (x ∷ xs) sum is =
      let rest = sum_is xs is.0 is.1 in
      let whole = sum_by-cons part x xs in
      elim is.2 [
        | inl here ↦
            let own : part x ≡ weight x = ap (λ (b : Bool). cond b (weight x) 0) ((decides x).1 here.0) in
            omega (arith, rest, whole, here.1, own)
        | inr not ↦
            let own : part x ≡ 0 = ap (λ (b : Bool). cond b (weight x) 0) (not_true x not.0) in
            omega (arith, rest, whole, not.1, own)
      ]

  is_sum : (xs : List A) → IsSumOf holds weight xs (sum_by part xs)
  is_sum [] = refl
  is_sum (x ∷ xs) = (sum_by part xs, is_sum xs, by (test x) refl)
    where
      by : (b : Bool) → test x ≡ b → (holds x × (sum_by part (x ∷ xs) ≡ sum_by part xs + weight x)) ⊎ ((holds x → ⊥) × (sum_by part (x ∷ xs) ≡ sum_by part xs))
      by true is =
          let own : part x ≡ weight x = ap (λ (b : Bool). cond b (weight x) 0) is in
          let whole = sum_by-cons part x xs in
          inl ((decides x).0 is, omega (arith, own, whole))
      by false is =
          let own : part x ≡ 0 = ap (λ (b : Bool). cond b (weight x) 0) is in
          let whole = sum_by-cons part x xs in
          inr (λ h. true≢false (sym ((decides x).1 h) ∙ is), omega (arith, own, whole))

-- What is counted in a sample, and which of it is added to a value.
module _ (columns : List ℕ) (shown : ShownSample) (index : ℕ) where
  abbrev is_counted : SampleValue → Bool
  is_counted value = nat_lt value.column (length columns) && eq_shown (shown_sample value) shown

  abbrev is_first : SampleValue → Bool
  is_first value = is_counted value && (index == 0)

  abbrev is_own : SampleValue → Bool
  is_own value = is_counted value && (index == get_or columns value.column 0)

-- What is added to a value, in two parts.
parts : (counted first own : Bool) (number sum : ℕ) → cond counted (cond first number 0 + cond own sum 0) 0 ≡ cond (counted && first) number 0 + cond (counted && own) sum 0
parts true first own number sum = refl
parts false first own number sum = refl

module _ {A : Type 0} (key : A → SampleValue) (samples weight : A → ℕ) (columns : List ℕ) (shown : ShownSample) (index : ℕ) where
  counted_decides : (one : A) → Decides (is_counted columns shown index (key one)) (IsIn key samples weight columns shown one)
  counted_decides one = Decides-and (nat_lt (key one).column (length columns)) (eq_shown (shown_sample (key one)) shown)
      (Decides-ltb (key one).column (length columns)) (shown_decides (shown_sample (key one)) shown)

  abbrev added_part : A → ℕ
  added_part one = cond (is_counted columns shown index (key one)) (added_by key samples weight columns index one) 0

  abbrev first_part : A → ℕ
  first_part one = cond (is_first columns shown index (key one)) (samples one) 0

  abbrev own_part : A → ℕ
  own_part one = cond (is_own columns shown index (key one)) (weight one) 0

  sum_parts : (xs : List A) → sum_by added_part xs ≡ sum_by first_part xs + sum_by own_part xs
  sum_parts [] = refl
  sum_parts (x ∷ xs) =
      let rest = sum_parts xs in
      let here : added_part x ≡ first_part x + own_part x = parts (is_counted columns shown index (key x)) (index == 0) (index == get_or columns (key x).column 0) (samples x) (weight x) in
      let whole = sum_by-cons added_part x xs in
      let firsts = sum_by-cons first_part x xs in
      let owns = sum_by-cons own_part x xs in
      omega (arith, rest, here, whole, firsts, owns)

-- What is counted of entries is counted of samples.
module _ (counted : List (Counted SampleValue)) (entries : List Entry) (tallies : Tallies counted entries) where
  sum_regrouped : (columns : List ℕ) (shown : ShownSample) (index sum : ℕ)
      → IsSumOf (IsIn entry_key entry_samples entry_weight columns shown) (added_by entry_key entry_samples entry_weight columns index) entries sum
      → IsSumOf (IsIn counted_key one_sample weight_of columns shown) (added_by counted_key one_sample weight_of columns index) counted sum
  sum_regrouped columns shown index sum is =
      let left = sum_parts entry_key entry_samples entry_weight columns shown index entries in
      let right = sum_parts counted_key one_sample weight_of columns shown index counted in
      let firsts : sum_by (first_part entry_key entry_samples entry_weight columns shown index) entries ≡ sum_by (first_part counted_key one_sample weight_of columns shown index) counted =
      samples_regroup (is_first columns shown index) counted entries tallies in
      let owns : sum_by (own_part entry_key entry_samples entry_weight columns shown index) entries ≡ sum_by (own_part counted_key one_sample weight_of columns shown index) counted =
      entries_regroup (is_own columns shown index) counted entries tallies in
      let all : sum ≡ sum_by (added_part entry_key entry_samples entry_weight columns shown index) entries =
      sum_is (IsIn entry_key entry_samples entry_weight columns shown) (λ (e : Entry). is_counted columns shown index e.0)
      (added_by entry_key entry_samples entry_weight columns index) (counted_decides entry_key entry_samples entry_weight columns shown index) entries sum is in
      let same : sum_by (added_part counted_key one_sample weight_of columns shown index) counted ≡ sum =
      right ∙ ap (λ (n : ℕ). n + sum_by (own_part counted_key one_sample weight_of columns shown index) counted) (sym firsts)
      ∙ ap (λ (n : ℕ). sum_by (first_part entry_key entry_samples entry_weight columns shown index) entries + n) (sym owns) ∙ sym left ∙ sym all in
      subst (IsSumOf (IsIn counted_key one_sample weight_of columns shown) (added_by counted_key one_sample weight_of columns index) counted) same
      (is_sum (IsIn counted_key one_sample weight_of columns shown) (λ (one : Counted SampleValue). is_counted columns shown index one.key)
      (added_by counted_key one_sample weight_of columns index) (counted_decides counted_key one_sample weight_of columns shown index) counted)

  pub samples_recounted : (described : List Column) (profile : ProfileValue) → CountsSamples entry_key entry_samples entry_weight described entries profile
      → CountsSamples counted_key one_sample weight_of described counted profile
  samples_recounted described profile counts = record {
    tables = counts.tables;
    summary = counts.summary;
    builds = counts.builds;
    columns = counts.columns;
    are_columns = record {
      first = counts.are_columns.first;
      number = counts.are_columns.number;
      each = λ index one column at there.
          let entry = tallies.all index one at in
          counts.are_columns.each entry.0 (one.key, entry.1) column entry.2 there;
    };
    each = λ at sample is.
        let own = counts.each at sample is in
        let one = tallies.only own.is_own.0 own.is_own.1.0 own.is_own.1.1 own.is_own.2 in
        record {
          shown = own.shown;
          is_shown = own.is_shown;
          is_own = (one.0, one.1, one.2, subst (λ (value : SampleValue). (value.column < length counts.columns) × (shown_sample value ≡ own.shown)) (sym one.3) own.is_own.3);
          number = own.number;
          sums = λ index value there. sum_regrouped counts.columns own.shown index value (own.sums index value there);
        };
    all = λ index one at within.
        let entry = tallies.all index one at in
        counts.all entry.0 (one.key, entry.1) entry.2 within;
    once = counts.once;
  }
