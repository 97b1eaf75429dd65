-- The values of the bytes of a number, the last byte first.
use Rattle.std.proofs.Common.{◌≡◌, ℕ, ◌+◌, ◌-◌, ◌*◌, ◌%◌, ◌^◌, ◌<◌, ◌≤◌, List, [], ◌∷◌, zero, suc, length, drop, get_or, refl, ap, ◌∙◌, arith, drop-cons, lit≤}
use Rattle.std.specs.Prelude.{ℤ, pos, negsuc, ◌+ℤ◌, ◌*ℤ◌, ◌≤ℤ◌, FitsSigned}
use Rattle.std.specs.Int.{w64}
use Rattle.std.proofs.lemmas.Int.{ints}
use Rattle.std.proofs.lemmas.Nat.{pow-add}
use Rattle.std.proofs.Math.Nat.{pow-le-pow_right}
use Rattle.code_cfi.specs.Numbers.{fixed_value, uleb128_value, sleb128_value}

pub drop_before : (bs : List ℕ) (k : ℕ) → 0 < k → k ≤ length bs → drop (k - 1) bs ≡ get_or bs (k - 1) 0 ∷ drop k bs
drop_before bs k some within =
    let next : suc (k - 1) ≡ k = omega (arith, some) in
    drop-cons bs (k - 1) 0 (omega (arith, some, within)) ∙ ap (λ n. get_or bs (k - 1) 0 ∷ drop n bs) next

pub uleb128_drop : (k : ℕ) (bs : List ℕ) → uleb128_value (drop k bs) ≤ uleb128_value bs
uleb128_drop zero bs = omega arith
uleb128_drop (suc k) [] = omega arith
uleb128_drop (suc k) (b ∷ bs) = let h = uleb128_drop k bs in omega (arith, h)

pub fixed_before : (bs : List ℕ) (k v b : ℕ) → 0 < k → k ≤ length bs → v ≡ fixed_value (drop k bs) → b ≡ get_or bs (k - 1) 0 → v * 256 + b ≡ fixed_value (drop (k - 1) bs)
fixed_before bs k v b some within e is = rw (drop_before bs k some within) (omega (arith, e, is))

pub fixed_power : (v b n m : ℕ) → v < 256 ^ n → b < 256 → m ≡ n + 1 → v * 256 + b < 256 ^ m
fixed_power v b n m low byte next =
    let p : 256 ^ m ≡ 256 ^ n * 256 ^ 1 = ap (λ k. 256 ^ k) next ∙ pow-add 256 n 1 in
    let q : 256 ^ 1 ≡ 256 = refl in
    rw p (rw q (omega (arith, low, byte)))

pub power_fits : (n : ℕ) → n ≤ 8 → 256 ^ n ≤ 2 ^ 64
power_fits n h = pow-le-pow_right (lit≤ tt) h

-- a part of an encoding that doesn't fit is a part of one that doesn't
pub uleb128_before : (bs : List ℕ) (k v : ℕ) → 0 < k → k ≤ length bs → v ≡ uleb128_value (drop k bs) → v * 128 + get_or bs (k - 1) 0 % 128 ≡ uleb128_value (drop (k - 1) bs)
uleb128_before bs k v some within e = rw (drop_before bs k some within) (omega (arith, e))

-- the numbers of 64 bits with a sign
pub fits_low : (x : ℤ) → FitsSigned w64 x → negsuc (2 ^ 63 - 1) ≤ℤ x
fits_low (pos n) f = let h = f.sfits in omega (arith, ints)
fits_low (negsuc n) f = let h = f.sfits in omega (arith, ints)

pub fits_high : (x : ℤ) → FitsSigned w64 x → x ≤ℤ pos (2 ^ 63 - 1)
fits_high (pos n) f = let h = f.sfits in omega (arith, ints)
fits_high (negsuc n) f = let h = f.sfits in omega (arith, ints)

pub fits_between : (x : ℤ) → negsuc (2 ^ 63 - 1) ≤ℤ x → x ≤ℤ pos (2 ^ 63 - 1) → FitsSigned w64 x
fits_between (pos n) low high = record { sfits = omega (arith, ints) }
fits_between (negsuc n) low high = record { sfits = omega (arith, ints) }

-- a number with seven bits more that fits has an upper part that fits
pub fits_upper : (b : ℕ) (x : ℤ) → FitsSigned w64 (pos (b % 128) +ℤ (pos 128 *ℤ x)) → FitsSigned w64 x
fits_upper b x f =
    let low = fits_low (pos (b % 128) +ℤ (pos 128 *ℤ x)) f in
    let high = fits_high (pos (b % 128) +ℤ (pos 128 *ℤ x)) f in
    let byte : b % 128 < 128 = omega arith in
    fits_between x (omega (arith, ints, low, high, byte)) (omega (arith, ints, low, high, byte))

pub fits_drop : (k : ℕ) (bs : List ℕ) → k < length bs → FitsSigned w64 (sleb128_value bs) → FitsSigned w64 (sleb128_value (drop k bs))
fits_drop zero bs within f = f
fits_drop (suc k) [] within f = absurd (omega (arith, within))
fits_drop (suc k) (b ∷ []) within f = absurd (omega (arith, within))
fits_drop (suc k) (b ∷ c ∷ bs) within f = fits_drop k (c ∷ bs) (omega (arith, within)) (fits_upper b (sleb128_value (c ∷ bs)) f)

pub sleb128_before : (bs : List ℕ) (k : ℕ) (v : ℤ) → 0 < k → k < length bs → v ≡ sleb128_value (drop k bs) → v *ℤ pos 128 +ℤ pos (get_or bs (k - 1) 0 % 128) ≡ sleb128_value (drop (k - 1) bs)
sleb128_before bs k v some within e =
    let up : k ≤ length bs = omega (arith, within) in
    let f = rw (drop-cons bs k 0 within) at e in
    rw (drop_before bs k some up) (rw (drop-cons bs k 0 within) (omega (arith, ints, f)))
