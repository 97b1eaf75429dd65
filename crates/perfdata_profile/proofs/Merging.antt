-- Sums of entries of which some are one by another key.
use Rattle.std.proofs.Common.{◌≡◌, ◌∙◌, ◌+◌, ◌⊎◌, inl, inr, ap, refl, sym, subst, arith, ℕ, zero, suc, List, [], ◌∷◌, map, slice_get, Some}
use Rattle.perfdata_profile.specs.Tallies.{Counted, IsSumOf, IsUnder, Tallies}
use Rattle.perfdata_profile.specs.declared.sums.Sums.{Sums}
use Rattle.perfdata_profile.proofs.Adding.{sum_none}
use Rattle.perfdata_profile.proofs.Elements.{some_same}
use Rattle.perfdata_profile.proofs.Valuing.{sum_map}

module _ {A : Type 0} (first second : A → Type 0) (weight : A → ℕ) where
  -- The same sum, if both hold of the same.
  pub sum_same : ((x : A) → first x → second x) → ((x : A) → second x → first x) → (xs : List A) (sum : ℕ) → IsSumOf first weight xs sum → IsSumOf second weight xs sum
  sum_same to back [] sum is = is
  sum_same to back (x ∷ xs) sum is = (
    is.0,
    sum_same to back xs is.0 is.1,
    elim is.2 [
      | inl here ↦ inl (to x here.0, here.1)
      | inr past ↦ inr ((λ holds. past.0 (back x holds)), past.1)
    ],
  )

module _ {A : Type 0} (first second both : A → Type 0) (weight : A → ℕ) where
  -- The sum of what one or the other holds of, if never both do.
  pub sum_union : ((x : A) → first x → second x → ⊥) → ((x : A) → first x → both x) → ((x : A) → second x → both x) → ((x : A) → both x → first x ⊎ second x)
      → (xs : List A) (a b : ℕ) → IsSumOf first weight xs a → IsSumOf second weight xs b → IsSumOf both weight xs (a + b)
  sum_union apart one other split [] a b is also = omega (arith, is, also)
  sum_union apart one other split (x ∷ xs) a b is also = (
    is.0 + also.0,
    sum_union apart one other split xs is.0 also.0 is.1 also.1,
    elim is.2 [
      | inl here ↦ elim also.2 [
        | inl there ↦ absurd (apart x here.0 there.0)
        | inr not ↦ inl (one x here.0, omega (arith, here.1, not.1))
      ]
      | inr past ↦ elim also.2 [
        | inl there ↦ inl (other x there.0, omega (arith, past.1, there.1))
        | inr not ↦ inr (
          (λ holds. elim (split x holds) [
            | inl f ↦ past.0 f
            | inr s ↦ not.0 s
          ]),
          omega (arith, past.1, not.1),
        )
      ]
    ],
  )

module _ {K L : Type 0} (f : K → L) (value : L) where
  -- What is counted under a key of one of the entries that has the value.
  abbrev pub IsAmong : List (K × Sums) → Counted K → Type 0
  IsAmong es one = (f one.key ≡ value) × ((index : ℕ) × (sums : Sums) × (slice_get es index ≡ Some (one.key, sums)))

  module _ (counted : List (Counted K)) (column : Sums → ℕ) (size : Counted K → ℕ) where
    abbrev HasSums : List (K × Sums) → Type 0
    HasSums es = (index : ℕ) (key : K) (sums : Sums) → slice_get es index ≡ Some (key, sums) → IsSumOf (IsUnder key) size counted (column sums)

    abbrev HasOnce : List (K × Sums) → Type 0
    HasOnce es = (first second : ℕ) (key : K) (sums others : Sums) → slice_get es first ≡ Some (key, sums) → slice_get es second ≡ Some (key, others) → first ≡ second

    key_of : (e : K × Sums) (es : List (K × Sums)) (one : Counted K) (sums : Sums) → slice_get (e ∷ es) 0 ≡ Some (one.key, sums) → one.key ≡ e.0
    key_of e es one sums at = sym (ap (λ (p : K × Sums). p.0) (some_same e (one.key, sums) at))

    among_split : (e : K × Sums) (es : List (K × Sums)) (one : Counted K) (index : ℕ) (sums : Sums) → f one.key ≡ value → slice_get (e ∷ es) index ≡ Some (one.key, sums) → IsAmong es one ⊎ IsUnder e.0 one
    among_split e es one zero sums is at = inr (key_of e es one sums at)
    among_split e es one (suc index) sums is at = inl (is, (index, sums, at))

    among_not : (e : K × Sums) (es : List (K × Sums)) (one : Counted K) (index : ℕ) (sums : Sums) → (f e.0 ≡ value → ⊥) → f one.key ≡ value → slice_get (e ∷ es) index ≡ Some (one.key, sums) → IsAmong es one
    among_not e es one zero sums not is at = absurd (not (sym (ap f (key_of e es one sums at)) ∙ is))
    among_not e es one (suc index) sums not is at = (is, (index, sums, at))

    pub sum_among : (es : List (K × Sums)) (sum : ℕ) → IsSumOf (λ (e : K × Sums). f e.0 ≡ value) (λ (e : K × Sums). column e.1) es sum → HasSums es → HasOnce es → IsSumOf (IsAmong es) size counted sum
    sum_among [] sum is sums once = subst (IsSumOf (IsAmong []) size counted) (sym is) (sum_none (IsAmong []) size counted (λ n one at among. nothing_at among.1.0 (one.key, among.1.1) among.1.2))
      where
        nothing_at : (index : ℕ) (e : K × Sums) → slice_get [] index ≡ Some e → ⊥
        nothing_at index e at = cc
    sum_among (e ∷ es) sum is sums once =
        let rest = sum_among es is.0 is.1 (λ index. sums (suc index)) (λ first second key s t one_is other_is. suc_same first second (once (suc first) (suc second) key s t one_is other_is)) in
        elim is.2 [
          | inl here ↦ subst (IsSumOf (IsAmong (e ∷ es)) size counted) (sym here.1) (sum_union (IsAmong es) (IsUnder e.0) (IsAmong (e ∷ es)) size
              (λ one among under. no_suc among.1.0 (once (suc among.1.0) 0 e.0 among.1.1 e.1 (among.1.2 ∙ ap (λ (k : K). Some (k, among.1.1)) under) refl))
              (λ one among. (among.0, (suc among.1.0, among.1.1, among.1.2)))
              (λ one under. (ap f under ∙ here.0, (0, e.1, ap (λ (k : K). Some (k, e.1)) (sym under))))
              (λ one among. among_split e es one among.1.0 among.1.1 among.0 among.1.2)
              counted is.0 (column e.1) rest (sums 0 e.0 e.1 refl))
          | inr past ↦ subst (IsSumOf (IsAmong (e ∷ es)) size counted) (sym past.1) (sum_same (IsAmong es) (IsAmong (e ∷ es)) size
              (λ one among. (among.0, (suc among.1.0, among.1.1, among.1.2)))
              (λ one among. among_not e es one among.1.0 among.1.1 past.0 among.0 among.1.2)
              counted is.0 rest)
        ]
      where
        suc_same : (n m : ℕ) → suc n ≡ suc m → n ≡ m
        suc_same n m is = omega (arith, is)

        no_suc : (n : ℕ) → suc n ≡ 0 → ⊥
        no_suc n is = omega (arith, is)

  -- The entries that have a value add up to what is counted under it.
  module _ (counted : List (Counted K)) (entries : List (K × Sums)) (tallies : Tallies counted entries) where
    abbrev valued : Counted K → Counted L
    valued one = record { key = f one.key; weight = one.weight }

    pub merged : (column : Sums → ℕ) (size : Counted K → ℕ) (value_size : Counted L → ℕ) (sum : ℕ) → ((one : Counted K) → value_size (valued one) ≡ size one)
        → ((index : ℕ) (key : K) (sums : Sums) → slice_get entries index ≡ Some (key, sums) → IsSumOf (IsUnder key) size counted (column sums))
        → IsSumOf (λ (e : K × Sums). f e.0 ≡ value) (λ (e : K × Sums). column e.1) entries sum
        → IsSumOf (IsUnder value) value_size (map valued counted) sum
    merged column size value_size sum sizes sums is =
        let among = sum_among counted column size entries sum is sums tallies.once in
        sum_map valued (IsAmong entries) (IsUnder value) size value_size counted sum (λ n one found. (
          (λ a. a.0),
          (λ under. (under, tallies.all n one found)),
          sizes one,
        )) among
