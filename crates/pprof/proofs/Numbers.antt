-- Numbers in the wire format: how one is written byte by byte, and that it is read again.
use Rattle.std.proofs.Common.{◌≡◌, ◌+◌, ◌/◌, ◌%◌, ◌<◌, ◌≤◌, ℕ, zero, suc, List, [], ◌∷◌, ◌++◌, refl, ap, sym, ◌∙◌, arith, inl, inr}
use Rattle.std.proofs.lemmas.Bool.{cases_lt, lt-ltb, le-ltb}
use Rattle.pprof.specs.Decoding.{after_number, number_of}
use Rattle.pprof.specs.Wire.{varint, varint_within}

pub small_within : (most n : ℕ) → n < 128 → varint_within most n ≡ n ∷ []
small_within zero n small = refl
small_within (suc most) n small = rw (lt-ltb n 128 small) refl

pub large_within : (most n : ℕ) → 128 ≤ n → varint_within (suc most) n ≡ (n % 128 + 128) ∷ varint_within most (n / 128)
large_within most n large = rw (le-ltb n 128 large) refl

pub quotient_fits : (most n : ℕ) → 128 ≤ n → n ≤ suc most → n / 128 ≤ most
quotient_fits most n large fits = omega arith

-- More bytes than a number needs change nothing.
pub same_within : (most other n : ℕ) → n ≤ most → n ≤ other → varint_within most n ≡ varint_within other n
same_within zero other n fits fits_other = small_within zero n (omega arith) ∙ sym (small_within other n (omega arith))
same_within (suc most) zero n fits fits_other = small_within (suc most) n (omega arith) ∙ sym (small_within zero n (omega arith))
same_within (suc most) (suc other) n fits fits_other = elim (cases_lt n 128) [
  | inl small ↦ small_within (suc most) n small ∙ sym (small_within (suc other) n small)
  | inr large ↦
      let rest = same_within most other (n / 128) (quotient_fits most n large fits) (quotient_fits other n large fits_other) in
      large_within most n large ∙ (ap (λ (bs : List ℕ). (n % 128 + 128) ∷ bs) rest ∙ sym (large_within other n large))
]

pub varint_small : (n : ℕ) → n < 128 → varint n ≡ n ∷ []
unfolding varint
varint_small n small = small_within n n small

pub varint_large : (n : ℕ) → 128 ≤ n → varint n ≡ (n % 128 + 128) ∷ varint (n / 128)
unfolding varint
varint_large zero large = absurd (omega arith)
varint_large (suc n) large =
    let fits = quotient_fits n (suc n) large (omega arith) in
    large_within n (suc n) large ∙ ap (λ (bs : List ℕ). (suc n % 128 + 128) ∷ bs) (same_within n (suc n / 128) (suc n / 128) fits (omega arith))

-- A number that is written is read, and the bytes after it are left.
pub read_within : (most n : ℕ) (rest : List ℕ) → n ≤ most → number_of (varint_within most n ++ rest) ≡ n
unfolding number_of
read_within zero n rest fits = rw (lt-ltb n 128 (omega arith)) refl
read_within (suc most) n rest fits = elim (cases_lt n 128) [
  | inl small ↦ rw (small_within (suc most) n small, lt-ltb n 128 small) refl
  | inr large ↦
      let after = read_within most (n / 128) rest (quotient_fits most n large fits) in
      rw (large_within most n large, le-ltb (n % 128 + 128) 128 (omega arith)) (omega arith)
]

pub left_within : (most n : ℕ) (rest : List ℕ) → n ≤ most → after_number (varint_within most n ++ rest) ≡ rest
unfolding after_number
left_within zero n rest fits = rw (lt-ltb n 128 (omega arith)) refl
left_within (suc most) n rest fits = elim (cases_lt n 128) [
  | inl small ↦ rw (small_within (suc most) n small, lt-ltb n 128 small) refl
  | inr large ↦
      let after = left_within most (n / 128) rest (quotient_fits most n large fits) in
      rw (large_within most n large, le-ltb (n % 128 + 128) 128 (omega arith)) after
]

pub number_of-varint : (n : ℕ) (rest : List ℕ) → number_of (varint n ++ rest) ≡ n
unfolding varint
number_of-varint n rest = read_within n n rest (omega arith)

pub after_number-varint : (n : ℕ) (rest : List ℕ) → after_number (varint n ++ rest) ≡ rest
unfolding varint
after_number-varint n rest = left_within n n rest (omega arith)

-- A number has at least one byte.
pub starts_within : (most n : ℕ) → (first : ℕ) × (more : List ℕ) × (varint_within most n ≡ first ∷ more)
starts_within zero n = (n, [], refl)
starts_within (suc most) n = elim (cases_lt n 128) [
  | inl small ↦ (n, [], small_within (suc most) n small)
  | inr large ↦ (n % 128 + 128, varint_within most (n / 128), large_within most n large)
]

pub varint_starts : (n : ℕ) → (first : ℕ) × (more : List ℕ) × (varint n ≡ first ∷ more)
unfolding varint
varint_starts n = starts_within n n
