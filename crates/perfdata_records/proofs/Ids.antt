-- A list of 8-byte numbers, and an attribute with its ids.
use Rattle.std.proofs.Common.{◌≡◌, ℕ, suc, ◌+◌, ◌*◌, ◌/◌, ◌≤◌, ◌++◌, List, [], ◌∷◌, length, drop, refl, sym, ap, ◌∙◌, subst, arith, length-drop, append_assoc, inl, inr, Some}
use Rattle.std.proofs.Math.Nat.{mul-add-div}
use Rattle.std.proofs.Math.Seq.{drop-append_seam}
use Rattle.std.specs.Prelude.{◌-◌, ◌%◌}
use Rattle.std.specs.declared.io.Error.{Error}
use Rattle.perfdata_sources.specs.Source.{State, memory_source}
use Rattle.perfdata_sources.specs.Attr.{own_size, IsAttr, AttrParsed, AttrParseError}
use Rattle.perfdata_sources.proofs.Numbers.{ReadsFirst}
use Rattle.perfdata_sources.proofs.Attrs.{own_remains, attr_remains, attr_explained, size_with}
use Rattle.perfdata_sources.specs.declared.attr.PerfEventAttr.{PerfEventAttr}
use Rattle.perfdata_records.specs.HeaderAttr.{Attribute, u64s_of, HoldsAttributeWith, attribute_with, IsHeaderAttrError}
use Rattle.perfdata_records.specs.steps.HeaderAttr.{IsIdsError}

module _ (number : ℕ → List ℕ → ℕ) where
  numbers_step : (xs : List ℕ) → 8 ≤ length xs → u64s_of number (length xs / 8) xs ≡ number 8 xs ∷ u64s_of number (length (drop 8 xs) / 8) (drop 8 xs)
  numbers_step xs enough =
      let long : length xs ≡ 8 * 1 + length (drop 8 xs) = omega (arith, length-drop 8 xs) in
      let one : length xs / 8 ≡ suc (length (drop 8 xs) / 8) =
      ap (λ n. n / 8) long ∙ mul-add-div {m = 8} (omega arith) 1 (length (drop 8 xs)) ∙ omega arith
      in
      ap (λ n. u64s_of number n xs) one

  -- the loop invariant: the ids so far and the numbers in the rest are all numbers
  abbrev pub AreSoFar : List ℕ → List ℕ → List ℕ → Type 0
  AreSoFar bytes ids rest = u64s_of number (length bytes / 8) bytes ≡ ids ++ u64s_of number (length rest / 8) rest

  pub ids_more : (bytes ids rest now remaining : List ℕ) → AreSoFar bytes ids rest → 8 ≤ length rest → now ≡ ids ++ number 8 rest ∷ [] → remaining ≡ drop 8 rest → AreSoFar bytes now remaining
  ids_more bytes ids rest now remaining far enough pushed rest_is =
      far ∙ ap (λ l. ids ++ l) (numbers_step rest enough)
      ∙ sym (append_assoc ids (number 8 rest ∷ []) (u64s_of number (length (drop 8 rest) / 8) (drop 8 rest)))
      ∙ (λ i. (sym pushed i) ++ u64s_of number (length (sym rest_is i) / 8) (sym rest_is i))

  module _ (first : ReadsFirst number) where
    some_is : (xs ys : List ℕ) → Some xs ≡ Some ys → xs ≡ ys
    some_is xs ys e = cc

    -- an attribute was parsed: the bytes begin with it, and the rest follows it
    pub attr_read : (xs rest : List ℕ) (attr : PerfEventAttr) (size_read : ℕ) → AttrParsed number (memory_source xs) attr size_read (memory_source rest) → IsAttr number xs attr × (rest ≡ drop (own_size number xs) xs)
    attr_read xs rest attr size_read parsed =
        let whole : xs ≡ parsed.bytes ++ rest = some_is xs (parsed.bytes ++ rest) parsed.consumes.bytes in
        let remains = attr_remains number first parsed.bytes rest attr parsed.matches in
        let size_is : own_size number parsed.bytes ≡ length parsed.bytes =
        sym (size_with number (own_size number parsed.bytes) parsed.bytes) ∙ sym (ap (λ a. a.size) parsed.matches.matches) ∙ parsed.size ∙ sym parsed.exact_len
        in
        let min_size = parsed.matches.min_size in
        let size : own_size number xs ≡ length parsed.bytes =
        ap (own_size number) whole ∙ own_remains number first parsed.bytes rest (omega arith) ∙ size_is
        in (
          subst (λ l. IsAttr number l attr) (sym whole) remains,
          sym ((λ i. drop (size i) (whole i)) ∙ drop-append_seam parsed.bytes rest),
        )

    -- parsing the attribute failed
    pub attr_error : (xs : List ℕ) (e : Error) (new : State) → AttrParseError number (memory_source xs) e new → IsHeaderAttrError number xs e
    attr_error xs e new error = elim (attr_explained number first (memory_source xs) new e error) [
      | inl none ↦ elim none [ inl truncated ↦ inl (truncated.0, inl truncated.1) | inr small ↦ inr (inl small) ]
      | inr source ↦ elim source [ inl failed ↦ absurd (failed.not_steady refl) | inr paused ↦ absurd (paused.not_steady refl) ]
    ]

  module _ (xs rest : List ℕ) (attr : PerfEventAttr) (is : IsAttr number xs attr) (rest_is : rest ≡ drop (own_size number xs) xs) where
    rest_long : length rest ≡ length xs - own_size number xs
    rest_long = ap length rest_is ∙ length-drop (own_size number xs) xs

    pub ids_hold : length rest % 8 ≡ 0 → HoldsAttributeWith number xs
    ids_hold even =
        let min_size = is.min_size in
        let complete = is.complete in
        record { has_fixed_part = omega arith; min_size = is.min_size; complete = is.complete; whole_ids = ap (λ n. n % 8) (sym rest_long) ∙ even }

    pub attribute_is : (ids : List ℕ) → ids ≡ u64s_of number (length rest / 8) rest → (let a : Attribute = record { attr = attr; ids = ids } in a) ≡ attribute_with number xs
    attribute_is ids are =
        let same : ids ≡ u64s_of number ((length xs - own_size number xs) / 8) (drop (own_size number xs) xs) =
        are ∙ (λ i. u64s_of number (rest_long i / 8) (rest_is i))
        in
        λ i. record { attr = is.matches i; ids = same i }

    pub ids_error : (e : Error) → IsIdsError rest e → IsHeaderAttrError number xs e
    ids_error e cause =
        let min_size = is.min_size in
        let complete = is.complete in
        elim cause [
          | inl truncated ↦ inl (truncated.0, inr (record { has_fixed_part = omega arith; min_size = is.min_size; complete = is.complete; partial_id = λ even. truncated.1 (ap (λ n. n % 8) rest_long ∙ even) }))
          | inr memory ↦ inr (inr (memory.0, ids_hold memory.1, omega (arith, rest_long, memory.2)))
        ]
