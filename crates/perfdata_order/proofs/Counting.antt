-- How often numbers below a bound are in a list.
use Rattle.std.proofs.Common.{◌≡◌, ℕ, zero, suc, ◌+◌, ◌<◌, ◌≤◌, List, [], ◌∷◌, length, refl, inl, inr, arith}
use Rattle.std.specs.Prelude.{◌≢◌, ◌⊎◌, ◌==◌, if◌then◌else◌}
use Rattle.std.specs.List.{sum_by}
use Rattle.std.proofs.lemmas.List.Sums.{sum_by-cons}
use Rattle.perfdata_order.proofs.Entries.{same_or_other, use_same, use_other}

abbrev sum_below : (ℕ → ℕ) → ℕ → ℕ
sum_below f zero = 0
sum_below f (suc n) = sum_below f n + f n

sum_none : (f : ℕ → ℕ) (n : ℕ) → ((i : ℕ) → i < n → f i ≡ 0) → sum_below f n ≡ 0
sum_none f zero none = refl
sum_none f (suc n) none = let rest = sum_none f n (λ i below. none i (omega (arith, below))) in let last = none n (omega arith) in omega (arith, rest, last)

sum_many : (f : ℕ → ℕ) (n : ℕ) → ((i : ℕ) → i < n → 1 ≤ f i) → n ≤ sum_below f n
sum_many f zero some = omega arith
sum_many f (suc n) some = let rest = sum_many f n (λ i below. some i (omega (arith, below))) in let last = some n (omega arith) in omega (arith, rest, last)

sum_few : (f : ℕ → ℕ) (n : ℕ) → ((i : ℕ) → i < n → f i ≤ 1) → sum_below f n ≤ n
sum_few f zero one = omega arith
sum_few f (suc n) one = let rest = sum_few f n (λ i below. one i (omega (arith, below))) in let last = one n (omega arith) in omega (arith, rest, last)

-- One number is counted at most once, and once if it is below the bound.
abbrev is_number : ℕ → ℕ → ℕ
is_number x i = if x == i then 1 else 0

one_past : (x n : ℕ) → n ≤ x → sum_below (is_number x) n ≡ 0
one_past x n past = sum_none (is_number x) n (λ i below. use_other x i (λ same. absurd (omega (arith, past, below, same))))

counted_last : (x n : ℕ) → (x ≡ n) ⊎ (x ≢ n) → sum_below (is_number x) n ≤ 1 → sum_below (is_number x) (suc n) ≤ 1
counted_last x n (inl same) before = let none = one_past x n (omega (arith, same)) in let one = use_same x n same in omega (arith, none, one)
counted_last x n (inr other) before = let none = use_other x n other in omega (arith, before, none)

one_at_most : (x n : ℕ) → sum_below (is_number x) n ≤ 1
one_at_most x zero = omega arith
one_at_most x (suc n) = counted_last x n (same_or_other x n) (one_at_most x n)

counted_below : (x n : ℕ) → x < suc n → (x ≡ n) ⊎ (x ≢ n) → (x < n → 1 ≤ sum_below (is_number x) n) → 1 ≤ sum_below (is_number x) (suc n)
counted_below x n below (inl same) before = let one = use_same x n same in omega (arith, one)
counted_below x n below (inr other) before = let one = before (omega (arith, below, other)) in omega (arith, one)

one_below : (x n : ℕ) → x < n → 1 ≤ sum_below (is_number x) n
one_below x zero below = absurd (omega (arith, below))
one_below x (suc n) below = counted_below x n below (same_or_other x n) (one_below x n)

module _ {X : Type 0} (number : X → ℕ) where
  -- How often a number is that of an element.
  abbrev times : List X → ℕ → ℕ
  times xs i = sum_by (λ x. if number x == i then 1 else 0) xs

  times_more : (x : X) (xs : List X) (i : ℕ) → times (x ∷ xs) i ≡ is_number (number x) i + times xs i
  times_more x xs i = sum_by-cons (λ y. is_number (number y) i) x xs

  sum_more : (x : X) (xs : List X) (n : ℕ) → sum_below (times (x ∷ xs)) n ≡ sum_below (is_number (number x)) n + sum_below (times xs) n
  sum_more x xs zero = refl
  sum_more x xs (suc n) = let rest = sum_more x xs n in let last = times_more x xs n in omega (arith, rest, last)

  sum_at_most : (xs : List X) (n : ℕ) → sum_below (times xs) n ≤ length xs
  sum_at_most [] n = let none = sum_none (times []) n (λ i below. refl) in omega (arith, none)
  sum_at_most (x ∷ xs) n = let more = sum_more x xs n in let one = one_at_most (number x) n in let rest = sum_at_most xs n in omega (arith, more, one, rest)

  -- If each number below a bound is counted, the list has as many elements.
  pub all_counted : (xs : List X) (n : ℕ) → ((i : ℕ) → i < n → 1 ≤ times xs i) → n ≤ length xs
  all_counted xs n some = let many = sum_many (times xs) n some in let most = sum_at_most xs n in omega (arith, many, most)

  sum_at_least : (xs : List X) (n : ℕ) → ((i : ℕ) → 0 < times xs i → i < n) → length xs ≤ sum_below (times xs) n
  sum_at_least [] n below = omega arith
  sum_at_least (x ∷ xs) n below =
      let more = sum_more x xs n in
      let here = times_more x xs (number x) in
      let counted = use_same (number x) (number x) refl in
      let one = one_below (number x) n (below (number x) (omega (arith, here, counted))) in
      let rest = sum_at_least xs n (λ i some. below i (let whole = times_more x xs i in omega (arith, some, whole))) in
      omega (arith, more, one, rest)

  -- If only numbers below a bound are counted, once each, the list has at most as many elements.
  pub few_counted : (xs : List X) (n : ℕ) → ((i : ℕ) → 0 < times xs i → i < n) → ((i : ℕ) → times xs i ≤ 1) → length xs ≤ n
  few_counted xs n below one = let few = sum_few (times xs) n (λ i small. one i) in let least = sum_at_least xs n below in omega (arith, few, least)
