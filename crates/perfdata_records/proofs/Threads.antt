-- The bytes before a NUL, and the threads of a map.
use Rattle.std.proofs.Common.{◌≡◌, ◌≢◌, ℕ, zero, suc, ◌+◌, ◌*◌, ◌/◌, ◌≤◌, ◌==◌, ◌++◌, true, not, cond, List, [], ◌∷◌, length, take, drop, refl, sym, ap, ◌∙◌, arith, length-drop}
use Rattle.std.proofs.lemmas.Nat.{div-mul-add}
use Rattle.std.proofs.Math.Nat.{mul-add-div}
use Rattle.std.proofs.lemmas.List.{take-append-drop, take-append-le, drop-append-le, length-take-le}
use Rattle.std.proofs.lemmas.List.Sums.{take_while-cons}
use Rattle.std.proofs.lemmas.List.Elements.{All-tail}
use Rattle.perfdata_sources.specs.Raw.{HasNoNul}
use Rattle.perfdata_sources.proofs.Numbers.{ReadsFirst}
use Rattle.perfdata_sections.specs.HeaderString.{before_nul}
use Rattle.perfdata_records.specs.Thread.{thread_at}
use Rattle.perfdata_records.specs.ThreadMap.{threads_in, IsThreadMap}

no_nul : (x : ℕ) → x ≢ 0 → not (x == 0) ≡ true
no_nul x h = grind arith

-- a NUL-terminated string consists of the bytes before the first NUL
pub before_string : (string rest : List ℕ) → HasNoNul string → before_nul (string ++ (0 ∷ rest)) ≡ string
before_string [] rest none = take_while-cons (λ b. not (b == 0)) 0 rest
before_string (x ∷ xs) rest none =
    take_while-cons (λ b. not (b == 0)) x (xs ++ (0 ∷ rest))
    ∙ ap (λ t. cond t (x ∷ before_nul (xs ++ (0 ∷ rest))) []) (no_nul x (none 0 0 (omega arith)))
    ∙ ap (λ l. x ∷ l) (before_string xs rest (All-tail (λ b. b ≢ 0) x xs none))

-- if no byte is NUL, all bytes are before the first NUL
pub before_none : (bytes : List ℕ) → HasNoNul bytes → before_nul bytes ≡ bytes
before_none [] none = refl
before_none (x ∷ xs) none =
    take_while-cons (λ b. not (b == 0)) x xs
    ∙ ap (λ t. cond t (x ∷ before_nul xs) []) (no_nul x (none 0 0 (omega arith)))
    ∙ ap (λ l. x ∷ l) (before_none xs (All-tail (λ b. b ≢ 0) x xs none))

-- complete entries have 24 bytes each
pub whole_entries : (n : ℕ) (xs : List ℕ) → length xs ≡ n * 24 → length xs ≡ 24 * (length xs / 24)
whole_entries n xs long =
    let many : length xs / 24 ≡ n = ap (λ l. l / 24) (long ∙ omega arith) ∙ div-mul-add n 24 0 (omega arith) in
    long ∙ omega arith

module _ (number : ℕ → List ℕ → ℕ) where
  pub threads_long : (n : ℕ) (xs : List ℕ) → length (threads_in number n xs) ≡ n
  threads_long zero xs = refl
  threads_long (suc n) xs = ap suc (threads_long n (drop 24 xs))

  -- the first thread in complete entries, and the others
  pub threads_step : (xs : List ℕ) → 24 ≤ length xs
      → threads_in number (length xs / 24) xs ≡ thread_at number xs ∷ threads_in number (length (drop 24 xs) / 24) (drop 24 xs)
  threads_step xs enough =
      let long : length xs ≡ 24 * 1 + length (drop 24 xs) = omega (arith, length-drop 24 xs) in
      let one : length xs / 24 ≡ suc (length (drop 24 xs) / 24) =
      ap (λ n. n / 24) long ∙ mul-add-div {m = 24} (omega arith) 1 (length (drop 24 xs)) ∙ omega arith
      in
      ap (λ n. threads_in number n xs) one

  module _ (first : ReadsFirst number) where
    -- bytes after the entries don't change the threads
    pub threads_prefix : (n : ℕ) (xs ys : List ℕ) → n * 24 ≤ length xs → threads_in number n (xs ++ ys) ≡ threads_in number n xs
    threads_prefix zero xs ys enough = refl
    threads_prefix (suc n) xs ys enough =
        let all : 24 + n * 24 ≤ length xs = omega arith in
        let eight = drop-append-le 8 xs ys (omega arith) in
        let name : take 16 (drop 8 (xs ++ ys)) ≡ take 16 (drop 8 xs) =
        ap (take 16) eight ∙ take-append-le 16 (drop 8 xs) ys (omega (arith, length-drop 8 xs))
        in
        let later : threads_in number n (drop 24 (xs ++ ys)) ≡ threads_in number n (drop 24 xs) =
        ap (threads_in number n) (drop-append-le 24 xs ys (omega arith)) ∙ threads_prefix n (drop 24 xs) ys (omega (arith, length-drop 24 xs))
        in
        λ i. record { tid = first 8 xs ys (omega arith) i; name = before_nul (name i) } ∷ later i

    -- the entries after the count, as many as it says, are the threads of the map
    pub is_map : (other : ℕ → List ℕ → ℕ) → ((n : ℕ) (xs : List ℕ) → number n xs ≡ other n xs) → (body rest entries : List ℕ) → 8 ≤ length body → rest ≡ drop 8 body
        → number 8 body * 24 ≤ length rest → entries ≡ take (number 8 body * 24) rest
        → IsThreadMap number body (threads_in other (length entries / 24) entries)
    is_map other agree body rest entries has_count rest_is enough entries_are =
        let count = number 8 body in
        let long : length entries ≡ count * 24 + 0 = ap length entries_are ∙ length-take-le (count * 24) rest enough ∙ omega arith in
        let many : length entries / 24 ≡ count = ap (λ n. n / 24) long ∙ div-mul-add count 24 0 (omega arith) in
        let same_number : other ≡ number = λ i n xs. sym (agree n xs) i in
        record {
          has_fixed_part = has_count;
          complete = omega (arith, length-drop 8 body, ap length rest_is);
          elements = ap (λ f. threads_in f (length entries / 24) entries) same_number ∙ ap (λ n. threads_in number n entries) many ∙ ap (threads_in number count) entries_are
              ∙ sym (threads_prefix count (take (count * 24) rest) (drop (count * 24) rest) (omega (arith, length-take-le (count * 24) rest enough)))
              ∙ ap (threads_in number count) (take-append-drop (count * 24) rest ∙ rest_is);
        }
