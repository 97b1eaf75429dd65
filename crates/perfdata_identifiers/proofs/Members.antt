-- The features of a set as a list.
use Rattle.std.proofs.Common.{◌≡◌, ℕ, zero, suc, ◌+◌, ◌-◌, ◌*◌, ◌%◌, ◌^◌, ◌<◌, ◌≤◌, ◌⊎◌, Bool, true, false, not, IsTrue, [], ◌∷◌, length, refl, arith, inl, inr, pow_pos}
use Rattle.std.specs.Prelude.{Contains, All, filter, cond}
use Rattle.std.specs.Bool.{nat_eq}
use Rattle.std.specs.List.{range_with_len}
use Rattle.std.specs.Int.{bit_at}
use Rattle.std.specs.Int.RustNames.{bit_and}
use Rattle.std.proofs.Math.Pow.{pow-lt}
use Rattle.std.proofs.lemmas.Bool.{cases_order}
use Rattle.std.proofs.lemmas.Bool.Decides.{nat_tests}
use Rattle.std.proofs.lemmas.Nat.Bits.{and_pow, bit_at-lt}
use Rattle.std.proofs.lemmas.List.Elements.{All-cons, All-nil, All-filter, All-contains, Contains-append_right, filter_passes}
use Rattle.perfdata_identifiers.specs.ParseInfo.{is_set}
use Rattle.perfdata_identifiers.specs.Features.{HasFeature, has_bit, features_from, features_of}
use Rattle.perfdata_identifiers.specs.declared.features.FeatureSet.{FeatureSet}

zero_or_one : (b : ℕ) → b < 2 → (b ≡ 0) ⊎ (b ≡ 1)
zero_or_one zero low = inl refl
zero_or_one (suc b) low = inr (omega arith)

-- the bit test in the form of the code
pub bit_test : (w k : ℕ) → k < 64 → not (nat_eq (bit_and w (1 * 2 ^ k % 2 ^ 64)) 0) ≡ is_set w k
bit_test w k low =
    let high : 2 ^ k < 2 ^ 64 = pow-lt low in
    let some : 0 < 2 ^ k = pow_pos k in
    let same : 1 * 2 ^ k % 2 ^ 64 ≡ 2 ^ k = omega arith in
    rw (same, and_pow w k) (elim (zero_or_one (bit_at w k) (bit_at-lt w k)) [
      | inl unset ↦ rw unset (grind (arith, nat_tests))
      | inr is ↦ rw is (grind (arith, nat_tests))
    ])

-- the list starts with feature n if the set contains it
pub features_more : (set : FeatureSet) (n : ℕ) → n < 256 → IsTrue (has_bit set n) → features_from set n ≡ n ∷ features_from set (n + 1)
unfolding features_from
features_more set n low is =
    let long : 256 - n ≡ suc (256 - (n + 1)) = omega arith in
    rw (long, is) refl

-- the list skips feature n if the set doesn't contain it
pub features_skip : (set : FeatureSet) (n : ℕ) → n < 256 → has_bit set n ≡ false → features_from set n ≡ features_from set (n + 1)
unfolding features_from
features_skip set n low is =
    let long : 256 - n ≡ suc (256 - (n + 1)) = omega arith in
    rw (long, is) refl

-- there are no features from 256 on
pub features_end : (set : FeatureSet) (n : ℕ) → 256 ≤ n → features_from set n ≡ []
unfolding features_from
features_end set n high =
    let none : 256 - n ≡ 0 = omega arith in
    rw none refl

-- a number in a range that satisfies p is in the filtered range
filter_contains : (p : ℕ → Bool) (a n x : ℕ) → a ≤ x → x < a + n → IsTrue (p x) → Contains (filter p (range_with_len a n)) x
filter_contains p a zero x low high is = absurd (omega arith)
filter_contains p a (suc n) x low high is = elim (cases_order a x) [
  | inl e ↦ (let here : IsTrue (p a) = rw e is in rw here (0, omega arith, e))
  | inr away ↦
      let later = filter_contains p (a + 1) n x (omega arith) (omega arith) is in
      elim (p a) as (λ b. Contains (cond b (a ∷ filter p (range_with_len (a + 1) n)) (filter p (range_with_len (a + 1) n))) x) [
        | true ↦ Contains-append_right (a ∷ []) _ x later
        | false ↦ later
      ]
]

-- the numbers of a range are below its end
range_high : (a n high : ℕ) → a + n ≤ high → All (λ x. x < high) (range_with_len a n)
range_high a zero high h = All-nil _
range_high a (suc n) high h = All-cons (λ x. x < high) a (range_with_len (a + 1) n) (omega arith) (range_high (a + 1) n high (omega arith))

-- the list contains each feature of the set
pub has_member : (set : FeatureSet) (n : ℕ) → HasFeature set n → Contains (features_of set) n
unfolding features_from
has_member set n (low, is) = filter_contains (has_bit set) 0 256 n (omega arith) (omega arith) is

pub member_has : (set : FeatureSet) (n : ℕ) → Contains (features_of set) n → HasFeature set n
unfolding features_from
member_has set n member = (
  All-contains (λ x. x < 256) _ n (All-filter (has_bit set) (λ x. x < 256) (range_with_len 0 256) (range_high 0 256 256 (omega arith))) member,
  All-contains (λ x. has_bit set x ≡ true) _ n (filter_passes (has_bit set) (range_with_len 0 256)) member,
)

-- a filtered range has no more elements than the range
is_too_few : (p : ℕ → Bool) (a n : ℕ) → length (filter p (range_with_len a n)) ≤ n
is_too_few p a zero = omega arith
is_too_few p a (suc n) =
    let less = is_too_few p (a + 1) n in
    elim (p a) as (λ b. length (cond b (a ∷ filter p (range_with_len (a + 1) n)) (filter p (range_with_len (a + 1) n))) ≤ suc n) [
      | true ↦ omega arith
      | false ↦ omega arith
    ]

-- a set has at most 256 features
pub features_too_few : (set : FeatureSet) (n : ℕ) → length (features_from set n) ≤ 256
unfolding features_from
features_too_few set n = omega (arith, is_too_few (has_bit set) n (256 - n))
