-- The bytes before the first NUL, and the text that they encode.
use Rattle.std.proofs.Common.{◌≡◌, ℕ, ◌<◌, ◌==◌, true, false, List, ◌++◌, length, take, get_or, refl, sym, ap, ◌∙◌, arith, length-append, None, Some}
use Rattle.std.specs.Prelude.{Option, Err}
use Rattle.std.specs.Str.{IsUtf8, is_utf8}
use Rattle.std.proofs.lemmas.Bool.{false_from_ne_true}
use Rattle.std.proofs.lemmas.List.{take_all}
use Rattle.std.proofs.lemmas.List.Sums.{position_or_len_is}
use Rattle.std.proofs.lemmas.List.Folds.{length-prefix_len}
use Rattle.std.proofs.lemmas.Str.{IsUtf8-from_is_utf8, is_utf8-from_IsUtf8}
use Rattle.memchr.specs.Find.{Nowhere, Passes, is_byte}
use Rattle.std.specs.declared.io.Error.{Error}
use Rattle.perfdata_sources.specs.Source.{State, Consumed, PartlyRead, ReadExactError}
use Rattle.perfdata_sources.proofs.ConsumedLemmas.{consumed_more}
use Rattle.perfdata_sources.proofs.Numbers.{ReadsFirst}
use Rattle.perfdata_sources.specs.declared.source.append.AppendError.{AppendError}
use Rattle.perfdata_sources.specs.declared.source.append.AppendError.TheVariants.{Memory, Source}
use Rattle.perfdata_sections.specs.ParsedPart.{PartRead, PartPartlyRead, PartReadError, ReadsBytes}
use Rattle.perfdata_sections.specs.HeaderString.{before_nul, utf8_text, IsTruncatedString, IsTruncatedText, IsHeaderStringOf, ReadsHeaderString}
use Rattle.perfdata_sections.proofs.PartLemmas.{drop_prefix, stopped_after}

-- the text ends at the first NUL
pub text_ends_at_nul : (xs : List ℕ) (nul_index : ℕ) → nul_index < length xs → Nowhere (Passes (is_byte 0) xs) 0 nul_index → Passes (is_byte 0) xs nul_index → take nul_index xs ≡ before_nul xs
text_ends_at_nul xs nul_index within before is =
    let at = position_or_len_is (λ b. b == 0) xs nul_index 0 (omega arith) (λ k low. false_from_ne_true (get_or xs k 0 == 0) (before k (omega arith) low)) (λ _. is) in
    ap (λ n. take n xs) (sym at)

-- there is no NUL
pub text_without_nul : (xs : List ℕ) → Nowhere (Passes (is_byte 0) xs) 0 (length xs) → xs ≡ before_nul xs
text_without_nul xs before =
    let at = position_or_len_is (λ b. b == 0) xs (length xs) 0 (omega arith) (λ k low. false_from_ne_true (get_or xs k 0 == 0) (before k (omega arith) low)) (λ low. absurd (omega arith)) in
    sym (take_all (length xs) xs (omega arith)) ∙ ap (λ n. take n xs) (sym at)

-- a prefix with the length of the text is the text
pub text_is_prefix : (xs kept : List ℕ) → kept ≡ take (length (before_nul xs)) xs → kept ≡ before_nul xs
text_is_prefix xs kept is = is ∙ ap (λ n. take n xs) (length-prefix_len _ xs)

pub text_is_utf8 : (xs text : List ℕ) → text ≡ xs → IsUtf8 text → Some text ≡ utf8_text xs
text_is_utf8 xs text same utf8 =
    let is : is_utf8 xs ≡ true = ap is_utf8 (sym same) ∙ is_utf8-from_IsUtf8 text utf8 in
    rw is (ap (λ t. Some t) same)

pub text_is_not_utf8 : (xs : List ℕ) → ¬ IsUtf8 xs → None ≡ utf8_text xs
text_is_not_utf8 xs isnt =
    let no_text : is_utf8 xs ≡ false = false_from_ne_true (is_utf8 xs) (λ is. isnt (IsUtf8-from_is_utf8 xs is)) in
    rw no_text refl

module _ (number : ℕ → List ℕ → ℕ) (first : ReadsFirst number) where
  -- the bytes after the length are too too_few
  string_too_short : (header part : List ℕ) → length header ≡ 4 → length part < number 4 header → IsTruncatedString number (header ++ part)
  string_too_short header part long too_few = λ _. let same = first 4 header part (omega arith) in omega (arith, length-append header part)

  pub string_body_truncated : (a b c : State) (header : List ℕ) (count : ℕ) (e : Error) → length header ≡ 4 → count ≡ number 4 header → Consumed a header b → ReadExactError b count e c
      → PartReadError (IsTruncatedString number) a e c
  string_body_truncated a b c header count e long says before read_error = stopped_after (IsTruncatedString number) a b c header count e before read_error (λ part too_few. string_too_short header part long (omega arith))

  pub string_body_partly_read : (a b c : State) (header : List ℕ) (count : ℕ) → length header ≡ 4 → count ≡ number 4 header → Consumed a header b → PartlyRead b count c
      → PartPartlyRead (IsTruncatedText number) a c
  string_body_partly_read a b c header count long says before partial =
      let less = partial.too_few in
      record { bytes = header ++ partial.consumed_bytes; is_truncated = (omega (arith, long, length-append header partial.consumed_bytes), string_too_short header partial.consumed_bytes long (omega arith) (omega (arith, long, length-append header partial.consumed_bytes))); consumes = consumed_more a b c header partial.consumed_bytes before partial.consumes }

  pub string_read : (a b c : State) (header body : List ℕ) (count : ℕ) (text : Option (List ℕ)) → length header ≡ 4 → count ≡ number 4 header → length body ≡ count → Consumed a header b → Consumed b body c
      → text ≡ utf8_text (before_nul body) → PartRead (IsHeaderStringOf number) a text c
  string_read a b c header body count text long says all before consumed is = record {
    bytes = header ++ body;
    consumes = consumed_more a b c header body before consumed;
    matches = let same = first 4 header body (omega arith) in (
      (omega (arith, length-append header body), omega (arith, length-append header body)),
      is ∙ ap (λ l. utf8_text (before_nul l)) (sym (drop_prefix 4 header body long)),
    );
  }

  pub string_body_error : (a b c : State) (header : List ℕ) (count : ℕ) (error : AppendError) → length header ≡ 4 → count ≡ number 4 header → Consumed a header b → ReadsBytes b count (Err error) c
      → ReadsHeaderString number a (Err error) c
  string_body_error a b c header count Memory long says before partial = string_body_partly_read a b c header count long says before partial
  string_body_error a b c header count (Source e) long says before read_error = string_body_truncated a b c header count e long says before read_error
