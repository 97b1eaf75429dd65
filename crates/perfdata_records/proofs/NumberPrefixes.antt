-- Numbers in a prefix of the bytes.
use Rattle.std.proofs.Common.{◌≡◌, ℕ, ◌+◌, ◌≤◌, List, length, take, drop, sym, ap, ◌∙◌, arith, length-drop}
use Rattle.std.proofs.lemmas.List.{take-append-drop, length-take-le}
use Rattle.perfdata_sources.proofs.Numbers.{ReadsFirst, first_take, first_drop_prefix}

-- a number at offset `k` of the first `m` bytes, read from the `j` bytes at that offset
pub number_within : (number : ℕ → List ℕ → ℕ) → ReadsFirst number → (n k j m : ℕ) (xs prefix : List ℕ) → prefix ≡ take m xs → m ≤ length xs → n ≤ j → k + j ≤ m
    → number n (take j (drop k prefix)) ≡ number n (drop k xs)
number_within number first n k j m xs prefix is enough fits within =
    let long = length-take-le m xs enough in
    ap (λ l. number n (take j (drop k l))) is
    ∙ first_take number first n j (drop k (take m xs)) fits (omega (arith, length-drop k (take m xs)))
    ∙ sym (first_drop_prefix number first n k (take m xs) (drop m xs) (omega arith)) ∙ ap (λ l. number n (drop k l)) (take-append-drop m xs)
