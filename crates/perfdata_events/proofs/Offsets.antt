-- Words that a format selects, by their offsets from the start and from the end of a record's body.
use Rattle.std.proofs.Common.{◌≡◌, ℕ, suc, ◌+◌, ◌-◌, ◌*◌, ◌≤◌, ◌⊎◌, inl, inr, Bool, true, false, List, ◌∷◌, ◌++◌, [], length, take, drop, refl, sym, ap, subst, ◌∙◌, arith, length-drop}
use Rattle.std.specs.Prelude.{not, ◌&&◌, ◌==◌, nat_lt, nat_le, cond, filter, position, Option, Some, None}
use Rattle.std.specs.List.{position_or_len}
use Rattle.std.specs.Option.{option_map, option_and_then}
use Rattle.std.proofs.lemmas.Bool.Decides.{nat_tests}
use Rattle.std.proofs.lemmas.List.{drop-drop}
use Rattle.perfdata_sources.proofs.Numbers.{number_take}
use Rattle.perfdata_sources.specs.Endian.{number_in}
use Rattle.perfdata_identifiers.specs.ParseInfo.{is_set, offset_from_start, offset_from_end}
use Rattle.perfdata_identifiers.specs.BodyFields.{checked_offset_from_start, checked_offset_from_end}
use Rattle.perfdata_sources.specs.declared.endian.Endianness.{Endianness}
use Rattle.perfdata_events.specs.Fields.{u64_at}
use Rattle.perfdata_events.specs.Words.{words_size, word_size, word_if, after, word_after}

pub set_or_not : (b : Bool) → (b ≡ true) ⊎ (b ≡ false)
set_or_not true = inl refl
set_or_not false = inr refl

-- None of these bits is the bit of a word.
abbrev pub others : ℕ → List ℕ → Bool
others word [] = true
others word (bit ∷ bits) = not (bit == word) && others word bits

both_true : (a b : Bool) → (a && b) ≡ true → (a ≡ true) × (b ≡ true)
both_true true b h = (refl, h)
both_true false b h = let e : false ≡ true = h in absurd cc

module _ (format : ℕ) where
  abbrev count : List ℕ → ℕ
  count bits = length (filter (is_set format) bits)

  abbrev index : ℕ → List ℕ → ℕ
  index word bits = position_or_len (λ w. w == word) (filter (is_set format) bits)

  pub words_size_is : (bits : List ℕ) → words_size format bits ≡ 8 * count bits
  words_size_is [] = refl
  words_size_is (bit ∷ bits) =
      let more = words_size_is bits in
      elim (is_set format bit) as (λ b. word_size b + words_size format bits ≡ 8 * length (cond b (bit ∷ filter (is_set format) bits) (filter (is_set format) bits)))
      [ true ↦ omega (arith, more) | false ↦ omega (arith, more) ]

  pub after_is : (bits xs : List ℕ) → after format bits xs ≡ drop (8 * count bits) xs
  after_is [] xs = refl
  after_is (bit ∷ bits) xs =
      elim (is_set format bit) as (λ b. after format bits (drop (word_size b) xs) ≡ drop (8 * length (cond b (bit ∷ filter (is_set format) bits) (filter (is_set format) bits))) xs)
      [ true ↦ after_is bits (drop 8 xs) ∙ drop-drop (8 * count bits) 8 xs ∙ ap (λ n. drop n xs) (omega arith) | false ↦ after_is bits xs ]

  count_append : (bits more : List ℕ) → count (bits ++ more) ≡ count bits + count more
  count_append [] more = omega arith
  count_append (bit ∷ bits) more =
      let rest = count_append bits more in
      elim (is_set format bit) as (λ b. length (cond b (bit ∷ filter (is_set format) (bits ++ more)) (filter (is_set format) (bits ++ more))) ≡ length (cond b (bit ∷ filter (is_set format) bits) (filter (is_set format) bits)) + count more)
      [ true ↦ omega (arith, rest) | false ↦ rest ]

  -- The words with other bits are before this one.
  index_append : (word : ℕ) (bits more : List ℕ) → others word bits ≡ true → index word (bits ++ more) ≡ count bits + index word more
  index_append word [] more h = omega arith
  index_append word (bit ∷ bits) more h =
      let hs = both_true (not (bit == word)) (others word bits) h in
      let rest = index_append word bits more (hs.1) in
      elim (is_set format bit) as (λ b. position_or_len (λ w. w == word) (cond b (bit ∷ filter (is_set format) (bits ++ more)) (filter (is_set format) (bits ++ more))) ≡ length (cond b (bit ∷ filter (is_set format) bits) (filter (is_set format) bits)) + index word more)
      [ true ↦ rw (hs.0) omega (arith, rest) | false ↦ rest ]

  -- No word has this bit.
  index_none : (word : ℕ) (bits : List ℕ) → others word bits ≡ true → index word bits ≡ count bits
  index_none word [] h = refl
  index_none word (bit ∷ bits) h =
      let hs = both_true (not (bit == word)) (others word bits) h in
      let rest = index_none word bits (hs.1) in
      elim (is_set format bit) as (λ b. position_or_len (λ w. w == word) (cond b (bit ∷ filter (is_set format) bits) (filter (is_set format) bits)) ≡ length (cond b (bit ∷ filter (is_set format) bits) (filter (is_set format) bits)))
      [ true ↦ (rw (hs.0) (omega (arith, rest))) | false ↦ rest ]

  pub after_length : (bits xs : List ℕ) → words_size format bits ≤ length xs → length (after format bits xs) + words_size format bits ≡ length xs
  after_length bits xs enough = let size = words_size_is bits in omega (arith, enough, size, ap length (after_is bits xs), length-drop (8 * count bits) xs)

  module _ (word : ℕ) (before later : List ℕ) (same : (word == word) ≡ true) (other : others word before ≡ true) (others_later : others word later ≡ true) where
    abbrev bits : List ℕ
    bits = before ++ (word ∷ later)

    abbrev all_words : List ℕ
    all_words = filter (is_set format) (before ++ (word ∷ later))

    count_set : is_set format word ≡ true → count (before ++ (word ∷ later)) ≡ count before + suc (count later)
    count_set e = count_append before (word ∷ later) ∙ ap (λ b. count before + length (cond b (word ∷ filter (is_set format) later) (filter (is_set format) later))) e

    count_unset : is_set format word ≡ false → count (before ++ (word ∷ later)) ≡ count before + count later
    count_unset e = count_append before (word ∷ later) ∙ ap (λ b. count before + length (cond b (word ∷ filter (is_set format) later) (filter (is_set format) later))) e

    index_set : is_set format word ≡ true → index word (before ++ (word ∷ later)) ≡ count before
    index_set e = index_append word before (word ∷ later) other
        ∙ ap (λ b. count before + position_or_len (λ w. w == word) (cond b (word ∷ filter (is_set format) later) (filter (is_set format) later))) e
        ∙ ap (λ b. count before + cond (not b) (1 + index word later) 0) same ∙ omega arith

    index_unset : is_set format word ≡ false → index word (before ++ (word ∷ later)) ≡ count before + count later
    index_unset e = index_append word before (word ∷ later) other
        ∙ ap (λ b. count before + position_or_len (λ w. w == word) (cond b (word ∷ filter (is_set format) later) (filter (is_set format) later))) e
        ∙ ap (λ n. count before + n) (index_none word later others_later)

    position_set : is_set format word ≡ true → position (λ w. w == word) all_words ≡ Some (count before)
    position_set e =
        let at : index word bits ≡ count before = index_set e in
        let all : count bits ≡ count before + suc (count later) = count_set e in
        let found : nat_lt (index word bits) (count bits) ≡ true = grind (arith, nat_tests) in
        ap (λ b. cond b (Some (index word bits)) None) found ∙ ap (λ n. Some n) at

    position_unset : is_set format word ≡ false → position (λ w. w == word) all_words ≡ None
    position_unset e =
        let at : index word bits ≡ count before + count later = index_unset e in
        let all : count bits ≡ count before + count later = count_unset e in
        let found : nat_lt (index word bits) (count bits) ≡ false = grind (arith, nat_tests) in
        ap (λ b. cond b (Some (index word bits)) None) found

    module _ (order : Endianness) (xs : List ℕ) where
      abbrev u64_value : List ℕ → ℕ
      u64_value = u64_at (number_in order) 0

      word_set : (ys : List ℕ) → is_set format word ≡ true → word_if (is_set format word) u64_value ys ≡ Some (number_in order 8 ys)
      word_set ys e = ap (λ b. cond b (Some (u64_value (take 8 ys))) None) e ∙ ap (λ n. Some n) (number_take order 8 8 ys (omega arith))

      word_unset : (ys : List ℕ) → is_set format word ≡ false → word_if (is_set format word) u64_value ys ≡ None
      word_unset ys e = ap (λ b. cond b (Some (u64_value (take 8 ys))) None) e

      -- The value of a word of a sample is the number at its offset from the start.
      pub value_from_start : words_size format before + word_size (is_set format word) ≤ length xs
          → word_after format before word u64_value xs
          ≡ option_map (λ at. number_in order 8 (drop at xs)) (option_and_then (checked_offset_from_start (length xs)) (offset_from_start all_words word))
      value_from_start enough =
          let look : Option ℕ → Option ℕ = λ p. option_map (λ at. number_in order 8 (drop at xs)) (option_and_then (checked_offset_from_start (length xs)) (option_map (λ i. 8 * i) p)) in
          elim (set_or_not (is_set format word)) [
            | inl e ↦
                let size = words_size_is before in
                let long : words_size format before + 8 ≤ length xs = subst (λ b. words_size format before + word_size b ≤ length xs) e enough in
                let fits : nat_le (8 * count before + 8) (length xs) ≡ true = grind (arith, nat_tests) in
                word_set (after format before xs) e ∙ ap (λ l. Some (number_in order 8 l)) (after_is before xs)
                ∙ sym (ap look (position_set e) ∙ ap (λ b. option_map (λ at. number_in order 8 (drop at xs)) (cond b (Some (8 * count before)) None)) fits)
            | inr e ↦ word_unset (after format before xs) e ∙ sym (ap look (position_unset e))
          ]

      -- The value of a word at the end of a record is the number at its offset from the end.
      pub value_from_end : words_size format (before ++ (word ∷ later)) ≤ length xs
          → word_after format before word u64_value (drop (length xs - words_size format (before ++ (word ∷ later))) xs)
          ≡ option_map (λ at. number_in order 8 (drop at xs)) (option_and_then (checked_offset_from_end (length xs)) (offset_from_end all_words word))
      value_from_end enough =
          let ys : List ℕ = drop (length xs - words_size format bits) xs in
          let look : Option ℕ → Option ℕ = λ p. option_map (λ at. number_in order 8 (drop at xs)) (option_and_then (checked_offset_from_end (length xs)) (option_map (λ i. 8 * (count bits - i)) p)) in
          elim (set_or_not (is_set format word)) [
            | inl e ↦
                let size = words_size_is bits in
                let all : count bits ≡ count before + suc (count later) = count_set e in
                let fits : (nat_le 8 (8 * (count bits - count before)) && nat_le (8 * (count bits - count before)) (length xs)) ≡ true = grind (arith, nat_tests) in
                let same_offset : (length xs - words_size format bits) + 8 * count before ≡ length xs - 8 * (count bits - count before) = omega (arith, enough, size, all) in
                word_set (after format before ys) e
                ∙ ap (λ l. Some (number_in order 8 l)) (after_is before ys ∙ drop-drop (8 * count before) (length xs - words_size format bits) xs ∙ ap (λ n. drop n xs) same_offset)
                ∙ sym (ap look (position_set e) ∙ ap (λ b. option_map (λ at. number_in order 8 (drop at xs)) (cond b (Some (length xs - 8 * (count bits - count before))) None)) fits)
            | inr e ↦ word_unset (after format before ys) e ∙ sym (ap look (position_unset e))
          ]
