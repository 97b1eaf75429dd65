-- The first byte that is a given one, and the bytes before it.
use Rattle.std.proofs.Common.{◌≡◌, ℕ, zero, suc, ◌+◌, ◌<◌, Bool, true, false, List, [], ◌∷◌, ◌++◌, Some, length, get_or, take, drop, refl, sym, ap, ◌∙◌, subst, arith, eqb, append_assoc, length-append, take-append-drop, append-nil, encode_utf8, le_refl, drop_at}
use Rattle.std.specs.List.{All, between, join_with_byte, slice_split}
use Rattle.std.proofs.lemmas.Slice.{between_to_end}
use Rattle.std.specs.Option.{option_map_or}
use Rattle.std.proofs.lemmas.List.Splits.{slice_split_at}
use Rattle.std.proofs.Common.{eqb-true}
use Rattle.std.proofs.lemmas.List.{drop_more, get_or-take}
use Rattle.std.proofs.lemmas.List.Elements.{All-from_get_or}
use Rattle.memchr.specs.Find.{Passes, Nowhere, NoneBefore, is_byte}
use Rattle.demangle_text.specs.Legacy.{escaped, is_dollar, with_colons, text_of_escapes, text_of_fields}
use Rattle.demangle_text.specs.steps.Legacy.{IsEscape, IsNoEscape}
use Rattle.demangle_text.specs.Text.{IsWhy, text_of, limit_of}
use Rattle.demangle_text.specs.declared.text.Text.{Text}
use Rattle.demangle_text.specs.declared.failure.Failure.{Failure}
use Rattle.demangle_text.proofs.EscapeLemmas.{text_plain, text_escape, text_no_escape, colons_plain, colons-append}
use Rattle.demangle_text.proofs.NameLemmas.{why_more}

pub not_true : (b : Bool) → (¬ (b ≡ true)) → b ≡ false
not_true true not = absurd (not refl)
not_true false not = refl

-- no byte is `a`
pub no_byte : (a : ℕ) (bytes : List ℕ) → Nowhere (Passes (is_byte a) bytes) 0 (length bytes) → All (λ b. eqb b a ≡ false) bytes
no_byte a bytes none = All-from_get_or (λ (b : ℕ). eqb b a ≡ false) bytes 0 (λ i lt. not_true (eqb (get_or bytes i 0) a) (none i (omega arith) lt))

take_lt : (n k : ℕ) (bytes : List ℕ) → k < length (take n bytes) → k < n
take_lt zero k bytes lt = absurd (omega (arith, lt))
take_lt (suc n) k [] lt = absurd (omega (arith, lt))
take_lt (suc n) zero (b ∷ bytes) lt = omega arith
take_lt (suc n) (suc k) (b ∷ bytes) lt = omega (arith, take_lt n k bytes (omega (arith, lt)))

-- no byte before place `k` is `a`
pub none_before : (a : ℕ) (bytes : List ℕ) (k : ℕ) → NoneBefore (Passes (is_byte a) bytes) 0 (length bytes) k → All (λ b. eqb b a ≡ false) (take k bytes)
none_before a bytes k first =
    All-from_get_or (λ (b : ℕ). eqb b a ≡ false) (take k bytes) 0
    (λ i lt. let low = take_lt k i bytes lt in subst (λ (b : ℕ). eqb b a ≡ false) (sym (get_or-take k bytes i 0 low)) (not_true (eqb (get_or bytes i 0) a) (first.before i (omega arith) low)))

-- the bytes from the first `a` on
pub from_first : (a : ℕ) (bytes : List ℕ) (k : ℕ) → NoneBefore (Passes (is_byte a) bytes) 0 (length bytes) k → Passes (is_byte a) bytes k → drop k bytes ≡ a ∷ drop (k + 1) bytes
from_first a bytes k first is = drop_more bytes k 0 first.high ∙ ap (λ (b : ℕ). b ∷ drop (k + 1) bytes) (eqb-true (get_or bytes k 0) a is)

-- the bytes before the first `a`, that byte, and the others
pub at_first : (a : ℕ) (bytes : List ℕ) (k : ℕ) → NoneBefore (Passes (is_byte a) bytes) 0 (length bytes) k → Passes (is_byte a) bytes k → bytes ≡ take k bytes ++ a ∷ drop (k + 1) bytes
at_first a bytes k first is = sym (take-append-drop k bytes) ∙ ap (λ (bs : List ℕ). take k bytes ++ bs) (from_first a bytes k first is)

-- a text and what is to come after it: some of that is appended
pub appended : (old mid new whole front rest : List ℕ) → mid ++ (front ++ rest) ≡ old ++ whole → new ≡ mid ++ front → new ++ rest ≡ old ++ whole
appended old mid new whole front rest same text = ap (λ (bs : List ℕ). bs ++ rest) text ∙ append_assoc mid front rest ∙ same

-- why bytes aren't appended that are a part of what is to come
pub why_part : (old mid : Text) (whole front rest : List ℕ) (why : Failure) → text_of mid ++ (front ++ rest) ≡ text_of old ++ whole → limit_of mid ≡ limit_of old → IsWhy mid (length front) why → IsWhy old (length whole) why
why_part old mid whole front rest why same limits is =
    why_more old mid (length front) (length whole) why limits (omega (arith, ap length same, length-append (text_of mid) (front ++ rest), length-append front rest, length-append (text_of old) whole)) is

-- the same, as parts of a slice
pub cut_at : (a : ℕ) (bytes : List ℕ) (k : ℕ) → NoneBefore (Passes (is_byte a) bytes) 0 (length bytes) k → Passes (is_byte a) bytes k → (bytes ≡ take k bytes ++ a ∷ between (k + 1) (length bytes) bytes) × All (λ b. eqb b a ≡ false) (take k bytes)
cut_at a bytes k first is = (
  at_first a bytes k first is
      ∙ ap (λ (bs : List ℕ). take k bytes ++ a ∷ bs) (sym (between_to_end bytes (k + 1) (length bytes) (le_refl (length bytes)))),
  none_before a bytes k first,
)

-- the bytes up to the first `.`
pub plain_step : (mid old whole rest plain after : List ℕ) → rest ≡ plain ++ 46 ∷ after → All (λ b. eqb b 46 ≡ false) plain → mid ++ with_colons rest ≡ old ++ whole → mid ++ (plain ++ with_colons (46 ∷ after)) ≡ old ++ whole
plain_step mid old whole rest plain after split first same =
    ap (λ (bs : List ℕ). mid ++ bs) (sym (ap with_colons split ∙ colons-append plain (46 ∷ after) first)) ∙ same

-- bytes without `.`
pub plain_end : (mid old whole rest : List ℕ) → All (λ b. eqb b 46 ≡ false) rest → mid ++ with_colons rest ≡ old ++ whole → mid ++ rest ≡ old ++ whole
plain_end mid old whole rest none same = ap (λ (bs : List ℕ). mid ++ bs) (sym (colons_plain rest none)) ∙ same

-- the bytes up to the first `$`, and an escape
pub escape_step : (mid old whole rest plain after next : List ℕ) (c : ℕ) → rest ≡ plain ++ 36 ∷ after → All (λ b. eqb b 36 ≡ false) plain → IsEscape after next (Some c) → mid ++ text_of_escapes rest ≡ old ++ whole → mid ++ (with_colons plain ++ (encode_utf8 c ++ text_of_escapes next)) ≡ old ++ whole
escape_step mid old whole rest plain after next c split first escape same =
    ap (λ (bs : List ℕ). mid ++ bs) (sym (ap text_of_escapes split ∙ text_escape plain after next c first escape)) ∙ same

-- the bytes up to the first `$`, which starts no escape
pub no_escape_step : (mid old whole rest plain after : List ℕ) → rest ≡ plain ++ 36 ∷ after → All (λ b. eqb b 36 ≡ false) plain → IsNoEscape after → mid ++ text_of_escapes rest ≡ old ++ whole → mid ++ (with_colons plain ++ between (length plain) (length rest) rest) ≡ old ++ whole
no_escape_step mid old whole rest plain after split first none same =
    let end : between (length plain) (length rest) rest ≡ 36 ∷ after = between_to_end rest (length plain) (length rest) (le_refl (length rest)) ∙ ap (drop (length plain)) split ∙ drop_at plain (36 ∷ after) (length plain) refl in
    ap (λ (bs : List ℕ). mid ++ (with_colons plain ++ bs)) end
    ∙ ap (λ (bs : List ℕ). mid ++ bs) (sym (ap text_of_escapes split ∙ text_no_escape plain after first none)) ∙ same

-- the bytes before the first `$` are appended first, whatever it starts
pub record Begins (mid old whole plain : List ℕ) : Type 0 where
  pub later : List ℕ
  pub same : mid ++ (plain ++ later) ≡ old ++ whole

fields_begin : (plain : List ℕ) (fields : List (List ℕ)) → (rest : List ℕ) × (text_of_fields (plain ∷ fields) ≡ with_colons plain ++ rest)
fields_begin plain [] = ([], sym (append-nil (with_colons plain)))
fields_begin plain (last ∷ []) = (36 ∷ last, refl)
fields_begin plain (name ∷ (next ∷ fields)) =
    (option_map_or (λ c. encode_utf8 c ++ text_of_fields (next ∷ fields)) (escaped name) (36 ∷ join_with_byte 36 (name ∷ (next ∷ fields))), refl)

pub begins_at : (mid old whole rest plain after : List ℕ) → rest ≡ plain ++ 36 ∷ after → All (λ b. eqb b 36 ≡ false) plain → mid ++ text_of_escapes rest ≡ old ++ whole → Begins mid old whole (with_colons plain)
begins_at mid old whole rest plain after split first same =
    let b = fields_begin plain (slice_split is_dollar after) in
    record {
      later = b.0;
      same = ap (λ (bs : List ℕ). mid ++ bs) (sym (ap text_of_escapes split ∙ ap text_of_fields (slice_split_at is_dollar plain 36 after first refl) ∙ b.1)) ∙ same;
    }

-- bytes without `$`
pub escapes_end : (mid old whole rest : List ℕ) → All (λ b. eqb b 36 ≡ false) rest → mid ++ text_of_escapes rest ≡ old ++ whole → mid ++ with_colons rest ≡ old ++ whole
escapes_end mid old whole rest none same = ap (λ (bs : List ℕ). mid ++ bs) (sym (text_plain rest none)) ∙ same

-- a text and what is to come after it, of which all is appended
pub appended_all : (old mid new whole rest : List ℕ) → mid ++ rest ≡ old ++ whole → new ≡ mid ++ rest → new ≡ old ++ whole
appended_all old mid new whole rest same text = text ∙ same

-- why bytes aren't appended that are all that is to come
pub why_all : (old mid : Text) (whole rest : List ℕ) (why : Failure) → text_of mid ++ rest ≡ text_of old ++ whole → limit_of mid ≡ limit_of old → IsWhy mid (length rest) why → IsWhy old (length whole) why
why_all old mid whole rest why same limits is =
    why_more old mid (length rest) (length whole) why limits (omega (arith, ap length same, length-append (text_of mid) rest, length-append (text_of old) whole)) is
