-- From ids that were read one by one to a list of a given count.
use Rattle.std.proofs.Common.{◌≡◌, ℕ, zero, suc, ◌+◌, ◌*◌, ◌/◌, ◌<◌, ◌≤◌, List, [], ◌∷◌, ◌++◌, length, drop, refl, sym, ap, ap₂, ◌∙◌, arith, append_assoc, append-nil, length-append, length-drop}
use Rattle.std.proofs.Math.Nat.{mul-add-div}
use Rattle.std.proofs.lemmas.List.{drop-append-le}
use Rattle.std.proofs.lemmas.Nat.{div-mul-add}
use Rattle.std.specs.Prelude.{Err}
use Rattle.perfdata_sources.specs.Source.{State}
use Rattle.perfdata_sources.proofs.ReadErrors.{truncated_later}
use Rattle.perfdata_sources.proofs.ConsumedLemmas.{consumed_more}
use Rattle.perfdata_sources.proofs.Numbers.{ReadsFirst}
use Rattle.perfdata_sources.specs.declared.source.append.AppendError.{AppendError}
use Rattle.perfdata_sources.specs.declared.source.append.AppendError.TheVariants.{Memory, Source}
use Rattle.perfdata_sections.specs.ParsedPart.{PartRead}
use Rattle.perfdata_sections.specs.EventIds.{u64s_of, AreIds, BeginsWithIds, ReadsIds}
use Rattle.perfdata_sections.specs.steps.EventIds.{AppendsIds}

no_bytes : (xs : List ℕ) → length xs ≡ 0 → xs ≡ []
no_bytes [] none = refl
no_bytes (x ∷ xs) none = absurd (omega (arith, none))

pub numbers_long : (number : ℕ → List ℕ → ℕ) (n : ℕ) (xs : List ℕ) → length (u64s_of number n xs) ≡ n
numbers_long number zero xs = refl
numbers_long number (suc n) xs = ap suc (numbers_long number n (drop 8 xs))

module _ (number : ℕ → List ℕ → ℕ) (first : ReadsFirst number) where
  -- ids, and ids after them
  numbers_append : (m n : ℕ) (xs ys : List ℕ) → length xs ≡ 8 * m → u64s_of number (m + n) (xs ++ ys) ≡ u64s_of number m xs ++ u64s_of number n ys
  numbers_append zero n xs ys exact_len =
      let none : xs ≡ [] = no_bytes xs (omega arith) in
      (let e : 0 + n ≡ n = omega arith in ap (λ k. u64s_of number k (xs ++ ys)) e) ∙ ap (λ l. u64s_of number n (l ++ ys)) none
  numbers_append (suc m) n xs ys exact_len =
      let long_enough : 8 ≤ length xs = omega arith in
      let rest : length (drop 8 xs) ≡ 8 * m = omega (arith, length-drop 8 xs) in
      (let e : suc m + n ≡ suc (m + n) = omega arith in ap (λ k. u64s_of number k (xs ++ ys)) e)
      ∙ ap (λ k. k ∷ u64s_of number (m + n) (drop 8 (xs ++ ys))) (first 8 xs ys long_enough)
      ∙ ap (λ l. number 8 xs ∷ u64s_of number (m + n) l) (drop-append-le 8 xs ys long_enough)
      ∙ ap (λ l. number 8 xs ∷ l) (numbers_append m n (drop 8 xs) ys rest)

  -- bytes after the ids don't change them
  pub numbers_prefix : (n : ℕ) (xs rest : List ℕ) → 8 * n ≤ length xs → u64s_of number n (xs ++ rest) ≡ u64s_of number n xs
  numbers_prefix zero xs rest exact_len = refl
  numbers_prefix (suc n) xs rest exact_len =
      let long_enough : 8 ≤ length xs = omega arith in
      let remaining : 8 * n ≤ length (drop 8 xs) = omega (arith, length-drop 8 xs) in
      ap (λ m. m ∷ u64s_of number n (drop 8 (xs ++ rest))) (first 8 xs rest long_enough)
      ∙ ap (λ l. number 8 xs ∷ u64s_of number n l) (drop-append-le 8 xs rest long_enough)
      ∙ ap (λ l. number 8 xs ∷ l) (numbers_prefix n (drop 8 xs) rest remaining)

  numbers_step : (xs : List ℕ) → 8 ≤ length xs → u64s_of number (length xs / 8) xs ≡ number 8 xs ∷ u64s_of number (length (drop 8 xs) / 8) (drop 8 xs)
  numbers_step xs enough =
      let long : length xs ≡ 8 * 1 + length (drop 8 xs) = omega (arith, length-drop 8 xs) in
      let one : length xs / 8 ≡ suc (length (drop 8 xs) / 8) =
      ap (λ n. n / 8) long ∙ mul-add-div {m = 8} (omega arith) 1 (length (drop 8 xs)) ∙ omega arith
      in
      ap (λ n. u64s_of number n xs) one

  -- one more of the ids in some bytes is appended; all ids are those so far and those in the rest
  pub ids_pushed : (all ids rest now remaining : List ℕ) → all ≡ ids ++ u64s_of number (length rest / 8) rest → 8 ≤ length rest → now ≡ ids ++ number 8 rest ∷ [] → remaining ≡ drop 8 rest → all ≡ now ++ u64s_of number (length remaining / 8) remaining
  ids_pushed all ids rest now remaining so_far enough pushed rest_is =
      so_far ∙ ap (λ l. ids ++ l) (numbers_step rest enough)
      ∙ sym (append_assoc ids (number 8 rest ∷ []) (u64s_of number (length (drop 8 rest) / 8) (drop 8 rest)))
      ∙ (λ i. (sym pushed i) ++ u64s_of number (length (sym rest_is i) / 8) (sym rest_is i))

  pub ids_complete : (all ids rest : List ℕ) → all ≡ ids ++ u64s_of number (length rest / 8) rest → length rest < 8 → ids ≡ all
  ids_complete all ids rest so_far too_few =
      let short : length rest ≡ 0 * 8 + length rest = omega arith in
      let none : u64s_of number (length rest / 8) rest ≡ [] = ap (λ n. u64s_of number n rest) (ap (λ n. n / 8) short ∙ div-mul-add 0 8 (length rest) too_few) in
      sym (so_far ∙ ap (λ l. ids ++ l) none ∙ append-nil ids)

  -- more ids were read
  pub ids_more : (i n m size : ℕ) (a b c : State) (ids now : List ℕ) → PartRead (AreIds number i) a ids b → size ≡ 8 * n → m ≡ i + n → PartRead (λ xs all. (length xs ≡ size) × (all ≡ ids ++ u64s_of number (size / 8) xs)) b now c → PartRead (AreIds number m) a now c
  ids_more i n m size a b c ids now was_read size_is count more =
      let before = was_read.matches.0 in
      let long = more.matches.0 in
      let exact : size ≡ n * 8 + 0 = omega (arith, size_is) in
      let words : size / 8 ≡ n = ap (λ k. k / 8) exact ∙ div-mul-add n 8 0 (omega arith) in
      record {
        bytes = was_read.bytes ++ more.bytes;
        consumes = consumed_more a b c was_read.bytes more.bytes was_read.consumes more.consumes;
        matches = (
          omega (arith, length-append was_read.bytes more.bytes, before, long, size_is, count),
          more.matches.1 ∙ ap₂ (λ l k. l ++ u64s_of number k more.bytes) was_read.matches.1 words
              ∙ sym (numbers_append i n was_read.bytes more.bytes before) ∙ ap (λ k. u64s_of number k (was_read.bytes ++ more.bytes)) (sym count),
        );
      }

  -- reading more ids fails
  pub ids_error : (i n count size : ℕ) (a b c : State) (ids now : List ℕ) (e : AppendError) → PartRead (AreIds number i) a ids b → size ≡ 8 * n → i + n ≤ count → AppendsIds number size b ids (Err e) now c → ReadsIds number count a (Err e) c
  ids_error i n count size a b c ids now Memory was_read size_is fits more =
      let before = was_read.matches.0 in
      let long = more.is_truncated.1 in
      let one = more.is_truncated.0 in
      record {
        bytes = was_read.bytes ++ more.bytes;
        is_truncated = (omega (arith, length-append was_read.bytes more.bytes, one), omega (arith, length-append was_read.bytes more.bytes, before, long, size_is, fits));
        consumes = consumed_more a b c was_read.bytes more.bytes was_read.consumes more.consumes;
      }
  ids_error i n count size a b c ids now (Source e) was_read size_is fits more =
      let before = was_read.matches.0 in truncated_later a b c was_read.bytes size (8 * count) e was_read.consumes more (omega (arith, before, size_is, fits))

  -- ids are unchanged by the bytes after them
  pub ids_stay : (count : ℕ) (xs rest ids : List ℕ) → AreIds number count xs ids → BeginsWithIds number count (xs ++ rest) ids
  ids_stay count xs rest ids are =
      let exact_len = are.0 in
      (omega (arith, length-append xs rest), are.1 ∙ sym (numbers_prefix count xs rest (omega arith)))
