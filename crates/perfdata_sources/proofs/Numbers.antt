-- Numbers depend only on the first bytes of a list, in either byte order.
use Rattle.std.proofs.Common.{◌≡◌, ℕ, ◌+◌, ◌≤◌, List, ◌++◌, length, take, drop, sym, ap, ◌∙◌, arith, length-drop}
use Rattle.std.proofs.lemmas.List.{drop-append-le, take-append-drop, length-take-le}
use Rattle.byteorder.specs.Numbers.{big_from-append, big_from-take, little_from-append, little_from-take}
use Rattle.perfdata_sources.specs.Endian.{number_in}
use Rattle.perfdata_sources.specs.declared.endian.Endianness.{Endianness}
use Rattle.perfdata_sources.specs.declared.endian.Endianness.TheVariants.{LittleEndian, BigEndian}

-- a function that parses numbers depends only on the first n bytes
abbrev pub ReadsFirst : (ℕ → List ℕ → ℕ) → Type 0
ReadsFirst number = (n : ℕ) (xs ys : List ℕ) → n ≤ length xs → number n (xs ++ ys) ≡ number n xs

-- bytes after the number don't change it
pub number_prefix : (order : Endianness) (n : ℕ) (xs ys : List ℕ) → n ≤ length xs
    → number_in order n (xs ++ ys) ≡ number_in order n xs
number_prefix LittleEndian n xs ys h = little_from-append n xs ys h
number_prefix BigEndian n xs ys h = big_from-append n xs ys h

-- each prefix that contains the number's bytes has the same number
pub number_take : (order : Endianness) (n m : ℕ) (xs : List ℕ) → n ≤ m
    → number_in order n (take m xs) ≡ number_in order n xs
number_take LittleEndian n m xs h = little_from-take 0 n m xs (omega arith)
number_take BigEndian n m xs h = big_from-take 0 n m xs (omega arith)

-- bytes after the list don't change the number at offset k
pub number_drop_prefix : (order : Endianness) (n k : ℕ) (xs ys : List ℕ) → k + n ≤ length xs
    → number_in order n (drop k (xs ++ ys)) ≡ number_in order n (drop k xs)
number_drop_prefix order n k xs ys h =
    let truncated = drop-append-le k xs ys (omega arith) in
    let long_enough : n ≤ length (drop k xs) = omega (arith, length-drop k xs) in
    ap (number_in order n) truncated ∙ number_prefix order n (drop k xs) ys long_enough

-- both byte orders depend only on the first bytes
pub in_reads_first : (order : Endianness) → ReadsFirst (number_in order)
in_reads_first order = λ n xs ys h. number_prefix order n xs ys h

-- `number_take` for each function that depends only on the first bytes
pub first_take : (number : ℕ → List ℕ → ℕ) → ReadsFirst number → (n m : ℕ) (xs : List ℕ) → n ≤ m → m ≤ length xs
    → number n (take m xs) ≡ number n xs
first_take number first n m xs h long_enough =
    let long = length-take-le m xs long_enough in
    sym (first n (take m xs) (drop m xs) (omega arith)) ∙ ap (number n) (take-append-drop m xs)

-- `number_drop_front` for each function that depends only on the first bytes
pub first_drop_prefix : (number : ℕ → List ℕ → ℕ) → ReadsFirst number → (n k : ℕ) (xs ys : List ℕ) → k + n ≤ length xs
    → number n (drop k (xs ++ ys)) ≡ number n (drop k xs)
first_drop_prefix number first n k xs ys h =
    let truncated = drop-append-le k xs ys (omega arith) in
    let long_enough : n ≤ length (drop k xs) = omega (arith, length-drop k xs) in
    ap (number n) truncated ∙ first n (drop k xs) ys long_enough

-- the numbers in a byte order that is known at compile time are those in the same order at run time
pub same_number : (number : ℕ → List ℕ → ℕ) (endian own : Endianness) → endian ≡ own → ((n : ℕ) (xs : List ℕ) → number n xs ≡ number_in own n xs) → number_in endian ≡ number
same_number number endian own is reads_by = λ i n xs. (ap (λ o. number_in o n xs) is ∙ sym (reads_by n xs)) i
