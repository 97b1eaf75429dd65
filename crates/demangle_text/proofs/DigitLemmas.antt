-- The decimal digits that bytes start with, and the number that they write.
use Rattle.std.proofs.Common.{◌≡◌, ◌≢◌, ◌⊎◌, ℕ, ◌+◌, ◌-◌, ◌*◌, ◌/◌, ◌%◌, ◌^◌, ◌<◌, ◌≤◌, Bool, true, false, cond, List, [], ◌∷◌, ◌++◌, length, get_or, drop, refl, sym, ap, ◌∙◌, subst, inl, inr, arith, le-ltb, lt-ltb, le_refl, append_assoc, append-nil, take-append-drop}
use Rattle.std.specs.Char.{is_ascii_digit, IsAsciiDigit, digit_value}
use Rattle.std.specs.Fmt.{decimal}
use Rattle.std.specs.List.{prefix_len}
use Rattle.std.specs.Str.Parse.{AllDigits, digits_value, digits_value_after}
use Rattle.std.proofs.lemmas.Bool.Decides.{leb_tells}
use Rattle.std.proofs.lemmas.Fmt.{decimal_step, decimal_digit}
use Rattle.std.proofs.lemmas.List.Folds.{length-prefix_len}
use Rattle.std.proofs.lemmas.List.Sums.{take_while-cons}
use Rattle.std.proofs.lemmas.Str.Parse.{digit_from_value}
use Rattle.demangle_text.specs.Digits.{leading_digits}

-- whether a byte is a digit, as a fact on numbers
pub digit_cases : (c : ℕ) → ((is_ascii_digit c ≡ true) × IsAsciiDigit c) ⊎ ((is_ascii_digit c ≡ false) × (¬ IsAsciiDigit c))
digit_cases c = elim (leb_tells 48 c) [
  | inl low ↦ elim (leb_tells c 57) [
    | inl high ↦ inl (rw (low.0, high.0), (low.1, high.1))
    | inr above ↦ inr (rw (low.0, above.0), λ is. absurd (omega (arith, is.1, above.1)))
  ]
  | inr below ↦ inr (rw below.0, λ is. absurd (omega (arith, is.0, below.1)))
]

pub digit_yes : (c : ℕ) → IsAsciiDigit c → is_ascii_digit c ≡ true
digit_yes c is = elim (digit_cases c) [ inl digit ↦ digit.0 | inr other ↦ absurd (other.1 is) ]

pub digit_no : (c : ℕ) → (¬ IsAsciiDigit c) → is_ascii_digit c ≡ false
digit_no c not = elim (digit_cases c) [ inl digit ↦ absurd (not digit.1) | inr other ↦ other.0 ]

pub digit_value-digit : (c : ℕ) → IsAsciiDigit c → digit_value c ≡ c - 48
digit_value-digit c is = rw (le-ltb c 48 is.0, lt-ltb c 58 (omega (arith, is.1)))

pub leading_digits-yes : (c : ℕ) (rest : List ℕ) → is_ascii_digit c ≡ true → leading_digits (c ∷ rest) ≡ c ∷ leading_digits rest
leading_digits-yes c rest is =
    take_while-cons is_ascii_digit c rest ∙ ap (λ (b : Bool). cond b (c ∷ leading_digits rest) []) is

pub leading_digits-no : (c : ℕ) (rest : List ℕ) → is_ascii_digit c ≡ false → leading_digits (c ∷ rest) ≡ []
leading_digits-no c rest not =
    take_while-cons is_ascii_digit c rest ∙ ap (λ (b : Bool). cond b (c ∷ leading_digits rest) []) not

-- digits before a byte that is none
pub leading_digits-append : (ds rest : List ℕ) → AllDigits 10 ds → (¬ IsAsciiDigit (get_or rest 0 0)) → leading_digits (ds ++ rest) ≡ ds
leading_digits-append [] [] all not = refl
leading_digits-append [] (c ∷ rest) all not = leading_digits-no c rest (digit_no c not)
leading_digits-append (d ∷ ds) rest all not =
    leading_digits-yes d (ds ++ rest) (digit_yes d (digit_from_value d all.0))
    ∙ ap (λ (xs : List ℕ). d ∷ xs) (leading_digits-append ds rest all.1 not)

digit_below : (c : ℕ) → IsAsciiDigit c → digit_value c < 10
digit_below c is = omega (arith, digit_value-digit c is, is.0, is.1)

pub all_leading_digits : (xs : List ℕ) → AllDigits 10 (leading_digits xs)
all_leading_digits [] = tt
all_leading_digits (c ∷ xs) = elim (digit_cases c) [
  | inl digit ↦ subst (AllDigits 10) (sym (leading_digits-yes c xs digit.0)) (digit_below c digit.1, all_leading_digits xs)
  | inr other ↦ subst (AllDigits 10) (sym (leading_digits-no c xs other.0)) tt
]

-- the digits, and what is after them
pub leading_digits_split : (xs : List ℕ) → xs ≡ leading_digits xs ++ drop (length (leading_digits xs)) xs
leading_digits_split xs =
    sym (take-append-drop (prefix_len is_ascii_digit xs) xs)
    ∙ ap (λ (n : ℕ). leading_digits xs ++ drop n xs) (sym (length-prefix_len is_ascii_digit xs))

pub after_leading_digits : (xs : List ℕ) → ¬ IsAsciiDigit (get_or (drop (length (leading_digits xs)) xs) 0 0)
after_leading_digits [] = λ is. absurd (omega (arith, is.0))
after_leading_digits (c ∷ xs) = elim (digit_cases c) [
  | inl digit ↦ subst (λ (ds : List ℕ). ¬ IsAsciiDigit (get_or (drop (length ds) (c ∷ xs)) 0 0)) (sym (leading_digits-yes c xs digit.0)) (after_leading_digits xs)
  | inr other ↦ subst (λ (ds : List ℕ). ¬ IsAsciiDigit (get_or (drop (length ds) (c ∷ xs)) 0 0)) (sym (leading_digits-no c xs other.0)) other.1
]

-- the number only grows with more digits
pub value_after-le : (n : ℕ) (ds : List ℕ) → n ≤ digits_value_after 10 n ds
value_after-le n [] = le_refl n
value_after-le n (d ∷ ds) = omega (arith, value_after-le (n * 10 + digit_value d) ds)

decimal_push : (n c : ℕ) → 0 < n → IsAsciiDigit c → n * 10 + digit_value c < 2 ^ 64 → decimal (n * 10 + digit_value c) ≡ decimal n ++ (c ∷ [])
decimal_push n c some is small =
    let v = digit_value-digit c is in
    let quotient : (n * 10 + digit_value c) / 10 ≡ n = omega (arith, v, is.0, is.1) in
    let digit : 48 + (n * 10 + digit_value c) % 10 ≡ c = omega (arith, v, is.0, is.1) in
    decimal_step (n * 10 + digit_value c) (omega (arith, some)) small
    ∙ ap (λ (q : ℕ). decimal q ++ ((48 + (n * 10 + digit_value c) % 10) ∷ [])) quotient
    ∙ ap (λ (d : ℕ). decimal n ++ (d ∷ [])) digit

decimal_after : (n : ℕ) (ds : List ℕ) → 0 < n → AllDigits 10 ds → digits_value_after 10 n ds < 2 ^ 64 → decimal (digits_value_after 10 n ds) ≡ decimal n ++ ds
decimal_after n [] some all small = sym (append-nil (decimal n))
decimal_after n (c ∷ cs) some all small =
    let is = digit_from_value c all.0 in
    let le = value_after-le (n * 10 + digit_value c) cs in
    decimal_after (n * 10 + digit_value c) cs (omega (arith, some)) all.1 small
    ∙ ap (λ (xs : List ℕ). xs ++ cs) (decimal_push n c some is (omega (arith, le, small)))
    ∙ append_assoc (decimal n) (c ∷ []) cs

first_value : (c : ℕ) → IsAsciiDigit c → c ≢ 48 → 0 < 0 * 10 + digit_value c
first_value c is not = omega (arith, digit_value-digit c is, is.0, is.1, not)

decimal_first : (c : ℕ) → IsAsciiDigit c → decimal (0 * 10 + digit_value c) ≡ c ∷ []
decimal_first c is =
    let v = digit_value-digit c is in
    let digit : 48 + (0 * 10 + digit_value c) ≡ c = omega (arith, v, is.0, is.1) in
    decimal_digit (0 * 10 + digit_value c) (omega (arith, v, is.1)) ∙ ap (λ (d : ℕ). d ∷ []) digit

-- digits without a leading zero are the decimal digits of their number
pub decimal_of_digits : (ds : List ℕ) → 0 < length ds → AllDigits 10 ds → get_or ds 0 0 ≢ 48 → digits_value 10 ds < 2 ^ 64 → (decimal (digits_value 10 ds) ≡ ds) × (0 < digits_value 10 ds)
decimal_of_digits [] some all not small = absurd (omega (arith, some))
decimal_of_digits (c ∷ cs) some all not small =
    let is = digit_from_value c all.0 in
    let positive = first_value c is not in
    let le = value_after-le (0 * 10 + digit_value c) cs in
    (decimal_after (0 * 10 + digit_value c) cs positive all.1 small ∙ ap (λ (xs : List ℕ). xs ++ cs) (decimal_first c is), omega (arith, positive, le))
