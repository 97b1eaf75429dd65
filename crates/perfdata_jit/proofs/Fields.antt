-- Numbers at fixed offsets of the first bytes.
use Rattle.std.proofs.Common.{◌≡◌, ℕ, ◌+◌, ◌≤◌, ◌++◌, List, length, take, drop, sym, ap, ◌∙◌, arith, length-drop}
use Rattle.std.proofs.lemmas.List.{take-append-drop, length-take-le}
use Rattle.perfdata_sources.proofs.Numbers.{ReadsFirst, first_take, first_drop_prefix}

-- a number at offset k of the first m bytes, read from the j bytes at this offset
pub number_within : (number : ℕ → List ℕ → ℕ) → ReadsFirst number → (n k j m : ℕ) (xs header : List ℕ) → header ≡ take m xs → m ≤ length xs → n ≤ j → k + j ≤ m
    → number n (take j (drop k header)) ≡ number n (drop k xs)
number_within number first n k j m xs header is long_enough small within =
    let long = length-take-le m xs long_enough in
    ap (λ l. number n (take j (drop k l))) is
    ∙ first_take number first n j (drop k (take m xs)) small (omega (arith, length-drop k (take m xs)))
    ∙ sym (first_drop_prefix number first n k (take m xs) (drop m xs) (omega arith)) ∙ ap (λ l. number n (drop k l)) (take-append-drop m xs)

-- the same number, read from all bytes at this offset
pub number_at : (number : ℕ → List ℕ → ℕ) → ReadsFirst number → (n k m : ℕ) (xs header : List ℕ) → header ≡ take m xs → m ≤ length xs → k + n ≤ m → number n (drop k header) ≡ number n (drop k xs)
number_at number first n k m xs header is long_enough within =
    let long = length-take-le m xs long_enough in
    ap (λ l. number n (drop k l)) is
    ∙ sym (first_drop_prefix number first n k (take m xs) (drop m xs) (omega (arith, long))) ∙ ap (λ l. number n (drop k l)) (take-append-drop m xs)

-- a list is its prefix followed by its suffix
pub truncated_again : (n : ℕ) (xs prefix rest : List ℕ) → prefix ≡ take n xs → rest ≡ drop n xs → xs ≡ prefix ++ rest
truncated_again n xs prefix rest is dropped = sym (take-append-drop n xs) ∙ (λ i. (sym is i) ++ (sym dropped i))

pub truncated_long : (n : ℕ) (xs prefix : List ℕ) → n ≤ length xs → prefix ≡ take n xs → length prefix ≡ n
truncated_long n xs prefix long_enough is = ap length is ∙ length-take-le n xs long_enough
