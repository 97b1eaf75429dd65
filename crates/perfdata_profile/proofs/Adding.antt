-- Sums as one more is counted.
use Rattle.std.proofs.Common.{◌≡◌, ◌∙◌, ◌≤◌, ◌+◌, inl, inr, ap, refl, sym, subst, arith, ℕ, suc, List, [], ◌∷◌, ◌++◌, length, length-append, slice_get, Some}
use Rattle.std.proofs.lemmas.Bool.{cases_eq}
use Rattle.std.specs.List.{sum_by}
use Rattle.indexmap.specs.IndexMap.{set_value_at}
use Rattle.std.proofs.lemmas.List.Sums.{sum_by-cons, sum_by_push}
use Rattle.perfdata_profile.specs.Sums.{sums_after}
use Rattle.perfdata_profile.specs.Tallies.{Counted, IsSumOf, IsUnder, Tallies, one_sample, weight_of}
use Rattle.perfdata_profile.specs.declared.sums.Sums.{Sums}
use Rattle.perfdata_profile.proofs.Elements.{old_or_last, set_elsewhere, set_here, slice_get_last, slice_get_more, some_same, sum_set}

module _ {A : Type 0} (holds : A → Type 0) (weight : A → ℕ) where
  pub sum_push : (xs : List A) (sum : ℕ) (x : A) → holds x → IsSumOf holds weight xs sum → IsSumOf holds weight (xs ++ x ∷ []) (sum + weight x)
  sum_push [] sum x under is = (0, refl, inl (under, omega (arith, is)))
  sum_push (y ∷ ys) sum x under is = (
    is.0 + weight x,
    sum_push ys is.0 x under is.1,
    elim is.2 [
      | inl here ↦ inl (here.0, omega (arith, here.1))
      | inr not ↦ inr (not.0, omega (arith, not.1))
    ],
  )

  pub sum_skip : (xs : List A) (sum : ℕ) (x : A) → (holds x → ⊥) → IsSumOf holds weight xs sum → IsSumOf holds weight (xs ++ x ∷ []) sum
  sum_skip [] sum x apart is = (0, refl, inr (apart, is))
  sum_skip (y ∷ ys) sum x apart is = (is.0, sum_skip ys is.0 x apart is.1, is.2)

  pub sum_none : (xs : List A) → ((index : ℕ) (x : A) → slice_get xs index ≡ Some x → holds x → ⊥) → IsSumOf holds weight xs 0
  sum_none [] none = refl
  sum_none (y ∷ ys) none = (0, sum_none ys (λ index. none (suc index)), inr (none 0 y refl, refl))

  pub sum_at_most : (xs : List A) (sum : ℕ) → IsSumOf holds weight xs sum → sum ≤ sum_by weight xs
  sum_at_most [] sum is = omega (arith, is)
  sum_at_most (y ∷ ys) sum is =
      let rest = sum_at_most ys is.0 is.1 in
      let more = sum_by-cons weight y ys in
      elim is.2 [
        | inl here ↦ omega (arith, rest, more, here.1)
        | inr not ↦ omega (arith, rest, more, not.1)
      ]

module _ {K : Type 0} (counted : List (Counted K)) (entries : List (K × Sums)) (tallies : Tallies counted entries) (key : K) (weight : ℕ) where
  abbrev one : Counted K
  one = record { key = key; weight = weight }

  abbrev column_of : (Sums → ℕ) → (Counted K → ℕ) → List (Counted K) → List (K × Sums) → Type 0
  column_of column size all es = (index : ℕ) (k : K) (sums : Sums) → slice_get es index ≡ Some (k, sums) → IsSumOf (IsUnder k) size all (column sums)

  -- One more is counted under a key that has an entry.
  module _ (index : ℕ) (old : Sums) (at : slice_get entries index ≡ Some (key, old)) where
    abbrev raised : List (K × Sums)
    raised = set_value_at entries index (sums_after old weight)

    raised_column : (column : Sums → ℕ) (size : Counted K → ℕ) → column (sums_after old weight) ≡ column old + size one → column_of column size counted entries → column_of column size (counted ++ one ∷ []) raised
    raised_column column size adds is other k sums found = elim (cases_eq other index) [
      | inl same ↦
          let here = set_here entries index key old (sums_after old weight) at in
          let pair = some_same (key, sums_after old weight) (k, sums) (sym here ∙ ap (slice_get raised) (sym same) ∙ found) in
          let k_is : key ≡ k = ap (λ (p : K × Sums). p.0) pair in
          let sum_is : column sums ≡ column old + size one = ap (λ (p : K × Sums). column p.1) (sym pair) ∙ adds in
          let before = is index k old (at ∙ ap (λ (n : K). Some (n, old)) k_is) in
          subst (IsSumOf (IsUnder k) size (counted ++ one ∷ [])) (sym sum_is) (sum_push (IsUnder k) size counted (column old) one k_is before)
      | inr apart ↦
          let was = sym (set_elsewhere entries index other (sums_after old weight) apart) ∙ found in
          let differs : key ≡ k → ⊥ = λ same. apart (tallies.once other index k sums old was (at ∙ ap (λ (n : K). Some (n, old)) same)) in
          sum_skip (IsUnder k) size counted (column sums) one differs (is other k sums was)
    ]

    raised_at : (other : ℕ) (k : K) (sums : Sums) → slice_get entries other ≡ Some (k, sums) → ((s : Sums) × (slice_get raised other ≡ Some (k, s)))
    raised_at other k sums found = elim (cases_eq other index) [
      | inl same ↦
          let k_is : key ≡ k = ap (λ (p : K × Sums). p.0) (some_same (key, old) (k, sums) (sym at ∙ ap (slice_get entries) (sym same) ∙ found)) in
          (sums_after old weight, ap (slice_get raised) same ∙ set_here entries index key old (sums_after old weight) at ∙ ap (λ (n : K). Some (n, sums_after old weight)) k_is)
      | inr apart ↦ (sums, set_elsewhere entries index other (sums_after old weight) apart ∙ found)
    ]

    raised_from : (other : ℕ) (k : K) (sums : Sums) → slice_get raised other ≡ Some (k, sums) → ((s : Sums) × (slice_get entries other ≡ Some (k, s)))
    raised_from other k sums found = elim (cases_eq other index) [
      | inl same ↦
          let here = set_here entries index key old (sums_after old weight) at in
          let k_is : key ≡ k = ap (λ (p : K × Sums). p.0) (some_same (key, sums_after old weight) (k, sums) (sym here ∙ ap (slice_get raised) (sym same) ∙ found)) in
          (old, ap (slice_get entries) same ∙ at ∙ ap (λ (n : K). Some (n, old)) k_is)
      | inr apart ↦ (sums, sym (set_elsewhere entries index other (sums_after old weight) apart) ∙ found)
    ]

    pub tally_raised : Tallies (counted ++ one ∷ []) raised
    tally_raised = record {
      samples = raised_column (λ s. s.samples) one_sample refl tallies.samples;
      weights = raised_column (λ s. s.weight) weight_of refl tallies.weights;
      all = λ n c found. elim (old_or_last counted one n c found) [
        | inl was ↦
            let entry = tallies.all n c was in
            let after = raised_at entry.0 c.key entry.1 entry.2 in
            (entry.0, after.0, after.1)
        | inr last ↦
            let entry = raised_at index key old at in
            (index, entry.0, entry.1 ∙ ap (λ (c : Counted K). Some (c.key, entry.0)) (sym last.1))
      ];
      only = λ n k s found.
          let c = tallies.only n k (raised_from n k s found).0 (raised_from n k s found).1 in
          (c.0, c.1, slice_get_more counted (one ∷ []) c.0 c.1 c.2, c.3);
      once = λ first second k s t one_is other_is. tallies.once first second k _ _ (raised_from first k s one_is).1 (raised_from second k t other_is).1;
      sum_of_samples =
          let more : sum_by (λ (entry : K × Sums). entry.1.samples) raised + old.samples ≡ sum_by (λ (entry : K × Sums). entry.1.samples) entries + (old.samples + 1) = sum_set (λ s. s.samples) entries index key old (sums_after old weight) at in
          omega (arith, more, tallies.sum_of_samples, length-append counted (one ∷ []));
      sum_of_weights =
          let more : sum_by (λ (entry : K × Sums). entry.1.weight) raised + old.weight ≡ sum_by (λ (entry : K × Sums). entry.1.weight) entries + (old.weight + weight) = sum_set (λ s. s.weight) entries index key old (sums_after old weight) at in
          omega (arith, more, tallies.sum_of_weights, sum_by_push weight_of counted one);
    }

  -- One more is counted under a key that has no entry.
  module _ (new : (index : ℕ) (sums : Sums) → slice_get entries index ≡ Some (key, sums) → ⊥) where
    abbrev first_sums : Sums
    first_sums = record { samples = 1; weight = weight }

    abbrev longer : List (K × Sums)
    longer = entries ++ (key, first_sums) ∷ []

    none_before : (n : ℕ) (c : Counted K) → slice_get counted n ≡ Some c → IsUnder key c → ⊥
    none_before n c found is =
        let entry = tallies.all n c found in
        new entry.0 entry.1 (entry.2 ∙ ap (λ (k : K). Some (k, entry.1)) is)

    first_column : (column : Sums → ℕ) (size : Counted K → ℕ) → column first_sums ≡ size one → column_of column size counted entries → column_of column size (counted ++ one ∷ []) longer
    first_column column size adds is other k sums found = elim (old_or_last entries (key, first_sums) other (k, sums) found) [
      | inl was ↦
          let differs : key ≡ k → ⊥ = λ same. new other sums (was ∙ ap (λ (n : K). Some (n, sums)) (sym same)) in
          sum_skip (IsUnder k) size counted (column sums) one differs (is other k sums was)
      | inr last ↦
          let k_is : key ≡ k = sym (ap (λ (p : K × Sums). p.0) last.1) in
          let sum_is : column sums ≡ 0 + size one = omega (arith, ap (λ (p : K × Sums). column p.1) last.1, adds) in
          let none = sum_none (IsUnder k) size counted (λ n c at under. none_before n c at (under ∙ sym k_is)) in
          subst (IsSumOf (IsUnder k) size (counted ++ one ∷ [])) (sym sum_is) (sum_push (IsUnder k) size counted 0 one k_is none)
    ]

    once_more : (first second : ℕ) (k : K) (s t : Sums) → slice_get longer first ≡ Some (k, s) → slice_get longer second ≡ Some (k, t) → first ≡ second
    once_more first second k s t one_is other_is = elim (old_or_last entries (key, first_sums) first (k, s) one_is) [
      | inl was ↦ elim (old_or_last entries (key, first_sums) second (k, t) other_is) [
        | inl also ↦ tallies.once first second k s t was also
        | inr last ↦ absurd (new first s (was ∙ ap (λ (p : K × Sums). Some (p.0, s)) last.1))
      ]
      | inr last ↦ elim (old_or_last entries (key, first_sums) second (k, t) other_is) [
        | inl was ↦ absurd (new second t (was ∙ ap (λ (p : K × Sums). Some (p.0, t)) last.1))
        | inr also ↦ last.0 ∙ sym also.0
      ]
    ]

    pub tally_first : Tallies (counted ++ one ∷ []) longer
    tally_first = record {
      samples = first_column (λ s. s.samples) one_sample refl tallies.samples;
      weights = first_column (λ s. s.weight) weight_of refl tallies.weights;
      all = λ n c found. elim (old_or_last counted one n c found) [
        | inl was ↦
            let entry = tallies.all n c was in
            (entry.0, entry.1, slice_get_more entries ((key, first_sums) ∷ []) entry.0 (c.key, entry.1) entry.2)
        | inr last ↦ (length entries, first_sums, slice_get_last entries (key, first_sums) ∙ ap (λ (c : Counted K). Some (c.key, first_sums)) (sym last.1))
      ];
      only = λ n k s found. elim (old_or_last entries (key, first_sums) n (k, s) found) [
        | inl was ↦
            let c = tallies.only n k s was in
            (c.0, c.1, slice_get_more counted (one ∷ []) c.0 c.1 c.2, c.3)
        | inr last ↦ (length counted, one, slice_get_last counted one, sym (ap (λ (p : K × Sums). p.0) last.1))
      ];
      once = once_more;
      sum_of_samples = omega (arith, tallies.sum_of_samples, length-append counted (one ∷ []), sum_by_push (λ (entry : K × Sums). entry.1.samples) entries (key, first_sums));
      sum_of_weights = omega (arith, tallies.sum_of_weights, sum_by_push weight_of counted one, sum_by_push (λ (entry : K × Sums). entry.1.weight) entries (key, first_sums));
    }
