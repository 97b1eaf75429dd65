-- Consecutive strings.
use Rattle.std.proofs.Common.{◌≡◌, ℕ, ◌<◌, ◌≤◌, List, [], ◌∷◌, ◌++◌, length, drop, refl, sym, ap, ◌∙◌, subst, arith, length-append}
use Rattle.std.specs.Prelude.{map}
use Rattle.std.specs.Borrow.{Bor}
use Rattle.std.specs.Str.{IsUtf8}
use Rattle.std.proofs.lemmas.List.{map_push}
use Rattle.perfdata_sources.specs.Endian.{number_in}
use Rattle.perfdata_sources.specs.declared.endian.Endianness.{Endianness}
use Rattle.perfdata_sections.specs.declared.error.Error.{Error}
use Rattle.perfdata_sections.specs.declared.error.Error.TheVariants.{NotEnoughSpaceForStringLen, StringLengthTooLong, StringUtf8}
use Rattle.linux_perf_data.specs.Values.{BeginsWithString, string_text, after_string, BeginsWithStrings, after_strings, IsStringError, IsStringListError, StringListNeedsMemory}

module _ (order : Endianness) where
  rest_push : (xs : List ℕ) (ts : List (List ℕ)) (t : List ℕ) → after_strings order xs (ts ++ t ∷ []) ≡ after_string order (after_strings order xs ts)
  rest_push xs [] t = refl
  rest_push xs (s ∷ ts) t = rest_push (after_string order xs) ts t

  texts_push : (xs : List ℕ) (ts : List (List ℕ)) (t : List ℕ) → BeginsWithStrings order xs ts → BeginsWithString order (after_strings order xs ts) → t ≡ string_text order (after_strings order xs ts) → IsUtf8 t
      → BeginsWithStrings order xs (ts ++ t ∷ [])
  texts_push xs [] t are one is utf8 = (one, is, utf8, tt)
  texts_push xs (s ∷ ts) t (first, text, valid, are) one is utf8 = (first, text, valid, texts_push (after_string order xs) ts t are one is utf8)

  -- one more string
  pub texts_more : (xs remaining rest : List ℕ) (items new : List (Bor (List ℕ))) (s : Bor (List ℕ)) → BeginsWithStrings order xs (map (λ b. b.now) items) → remaining ≡ after_strings order xs (map (λ b. b.now) items)
      → BeginsWithString order remaining → s.now ≡ string_text order remaining → rest ≡ after_string order remaining → IsUtf8 s.now → new ≡ items ++ s ∷ []
      → BeginsWithStrings order xs (map (λ b. b.now) new) × (rest ≡ after_strings order xs (map (λ b. b.now) new))
  texts_more xs remaining rest items new s are at one is after utf8 grown =
      let ts : List (List ℕ) = map (λ b. b.now) items in
      let all : map (λ b. b.now) new ≡ ts ++ s.now ∷ [] = ap (map (λ b. b.now)) grown ∙ map_push (λ b. b.now) items s in (
        subst (BeginsWithStrings order xs) (sym all) (texts_push xs ts s.now are (subst (BeginsWithString order) at one) (is ∙ ap (string_text order) at) utf8),
        after ∙ ap (after_string order) at ∙ sym (rest_push xs ts s.now) ∙ sym (ap (after_strings order xs) all),
      )

  -- memory runs out for the next string
  pub texts_need : (xs remaining : List ℕ) (before : List (List ℕ)) (t : List ℕ) → 4 ≤ length xs → length before < number_in order 4 xs → BeginsWithStrings order (drop 4 xs) before → remaining ≡ after_strings order (drop 4 xs) before
      → BeginsWithString order remaining → t ≡ string_text order remaining → IsUtf8 t → StringListNeedsMemory order xs
  texts_need xs remaining before t counted fewer are at one is utf8 =
      let longer = length-append before (t ∷ []) in
      record {
        has_count = counted;
        first_strings = before ++ t ∷ [];
        at_least_one = omega (arith, longer);
        within = omega (arith, longer, fewer);
        elements = texts_push (drop 4 xs) before t are (subst (BeginsWithString order) at one) (is ∙ ap (string_text order) at) utf8;
      }

  -- parsing the next string fails
  pub texts_stop : (xs : List ℕ) (before : List (List ℕ)) (e : Error) → 4 ≤ length xs → length before < number_in order 4 xs → BeginsWithStrings order (drop 4 xs) before
      → IsStringError order (after_strings order (drop 4 xs) before) e → IsStringListError order xs e
  texts_stop xs before NotEnoughSpaceForStringLen counted fewer are stops = record { has_count = counted; before = before; too_few = fewer; elements = are; error_here = stops }
  texts_stop xs before StringLengthTooLong counted fewer are stops = record { has_count = counted; before = before; too_few = fewer; elements = are; error_here = stops }
  texts_stop xs before StringUtf8 counted fewer are stops = record { has_count = counted; before = before; too_few = fewer; elements = are; error_here = stops }
  texts_stop xs before e counted fewer are stops = absurd stops
