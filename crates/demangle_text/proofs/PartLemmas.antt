-- Parts that are read one after the other are the parts of the name.
use Rattle.std.proofs.Common.{◌≡◌, ℕ, zero, suc, ◌+◌, ◌^◌, ◌<◌, ◌≤◌, List, [], ◌∷◌, ◌++◌, length, get_or, take, drop, refl, sym, ap, ◌∙◌, subst, arith, append_assoc, length-append, take_at, drop_at, le_refl, ne_eqb, Bool, cond}
use Rattle.std.specs.Char.{IsAsciiDigit}
use Rattle.std.specs.Fmt.{decimal}
use Rattle.std.specs.List.{All, flat_map}
use Rattle.std.proofs.lemmas.Fmt.{decimal_is_IsNumeral, decimal_injective}
use Rattle.std.proofs.lemmas.List.{append_cancel_left, get_or_append_left}
use Rattle.std.proofs.lemmas.List.Elements.{All-head, All-tail}
use Rattle.std.proofs.lemmas.Str.Parse.{digit_at}
use Rattle.demangle_text.specs.Digits.{leading_digits}
use Rattle.demangle_text.specs.Legacy.{IsPart, written, text_of_part, text_of_parts}
use Rattle.demangle_text.specs.steps.Legacy.{separator}
use Rattle.demangle_text.proofs.DigitLemmas.{leading_digits-append}

part_not_digit : (part rest : List ℕ) → IsPart part → ¬ IsAsciiDigit (get_or (part ++ rest) 0 0)
part_not_digit part rest is = subst (λ (c : ℕ). ¬ IsAsciiDigit c) (sym (get_or_append_left part rest 0 0 is.some)) is.first

-- the digits of a part that is written are those of its length
pub leading_digits-written : (part rest : List ℕ) → IsPart part → length part < 2 ^ 64 → leading_digits (written part ++ rest) ≡ decimal (length part)
leading_digits-written part rest is small =
    ap leading_digits (append_assoc (decimal (length part)) part rest)
    ∙ leading_digits-append (decimal (length part)) (part ++ rest) (decimal_is_IsNumeral (length part) small).0.1 (part_not_digit part rest is)

same_length_parts : (p q a b : List ℕ) → length p ≡ length q → p ++ a ≡ q ++ b → (p ≡ q) × (a ≡ b)
same_length_parts p q a b e same = (
  sym (take_at p a (length p) refl) ∙ ap (take (length p)) same ∙ take_at q b (length p) (sym e),
  sym (drop_at p a (length p) refl) ∙ ap (drop (length p)) same ∙ drop_at q b (length p) (sym e),
)

-- what is written first is the same part
pub same_part : (p q a b : List ℕ) → IsPart p → IsPart q → length p < 2 ^ 64 → length q < 2 ^ 64 → written p ++ a ≡ written q ++ b → (p ≡ q) × (a ≡ b)
same_part p q a b is_p is_q small_p small_q same =
    let digits : decimal (length p) ≡ decimal (length q) = sym (leading_digits-written p a is_p small_p) ∙ ap leading_digits same ∙ leading_digits-written q b is_q small_q in
    let size = decimal_injective (length p) (length q) small_p small_q digits in
    let whole : decimal (length q) ++ (p ++ a) ≡ decimal (length q) ++ (q ++ b) =
    ap (λ (ds : List ℕ). ds ++ (p ++ a)) (sym digits) ∙ sym (append_assoc (decimal (length p)) p a) ∙ same ∙ append_assoc (decimal (length q)) q b in
    same_length_parts p q a b size (append_cancel_left (decimal (length q)) (p ++ a) (q ++ b) whole)

pub first_digit : (part rest : List ℕ) → length part < 2 ^ 64 → IsAsciiDigit (get_or (written part ++ rest) 0 0)
first_digit part rest small =
    let numeral = (decimal_is_IsNumeral (length part) small).0 in
    subst IsAsciiDigit (sym (ap (λ (xs : List ℕ). get_or xs 0 0) (append_assoc (decimal (length part)) part rest) ∙ get_or_append_left (decimal (length part)) (part ++ rest) 0 0 numeral.0)) (digit_at (decimal (length part)) 0 numeral.1 numeral.0)

-- what is after the parts that were read
pub record IsRest (read parts : List (List ℕ)) (ys z : List ℕ) : Type 0 where
  pub rest : List (List ℕ)
  pub are : All IsPart rest
  pub parts_are : parts ≡ read ++ rest
  pub bytes_are : ys ≡ flat_map written rest ++ z

-- parts that were read are the first of the parts
pub read_parts : (read parts : List (List ℕ)) (ys z : List ℕ) → All IsPart read → All IsPart parts → (¬ IsAsciiDigit (get_or z 0 0)) → length (flat_map written read ++ ys) < 2 ^ 64 → flat_map written read ++ ys ≡ flat_map written parts ++ z → IsRest read parts ys z
read_parts [] parts ys z are all not small same = record { rest = parts; are = all; parts_are = refl; bytes_are = same }
read_parts (p ∷ read) [] ys z are all not small same =
    let long : length p < 2 ^ 64 = omega (arith, length-append (written p ++ flat_map written read) ys, length-append (written p) (flat_map written read), length-append (decimal (length p)) p, small) in
    absurd (not (subst (λ (xs : List ℕ). IsAsciiDigit (get_or xs 0 0)) (sym (append_assoc (written p) (flat_map written read) ys) ∙ same) (first_digit p (flat_map written read ++ ys) long)))
read_parts (p ∷ read) (q ∷ parts) ys z are all not small same =
    let lengths = length-append (written p ++ flat_map written read) ys in
    let lengths_p = length-append (written p) (flat_map written read) in
    let both = ap length same in
    let long_p : length p < 2 ^ 64 = omega (arith, lengths, lengths_p, length-append (decimal (length p)) p, small) in
    let long_q : length q < 2 ^ 64 = omega (arith, both, length-append (written q ++ flat_map written parts) z, length-append (written q) (flat_map written parts), length-append (decimal (length q)) q, small) in
    let one = same_part p q (flat_map written read ++ ys) (flat_map written parts ++ z) (All-head IsPart p read are) (All-head IsPart q parts all) long_p long_q (sym (append_assoc (written p) (flat_map written read) ys) ∙ same ∙ append_assoc (written q) (flat_map written parts) z) in
    let short : length (flat_map written read ++ ys) < 2 ^ 64 = omega (arith, lengths, lengths_p, length-append (flat_map written read) ys, small) in
    let later = read_parts read parts ys z (All-tail IsPart p read are) (All-tail IsPart q parts all) not short one.1 in
    record {
      rest = later.rest;
      are = later.are;
      parts_are = ap (λ (r : List ℕ). r ∷ parts) (sym one.0) ∙ ap (λ (rs : List (List ℕ)). p ∷ rs) later.parts_are;
      bytes_are = later.bytes_are;
    }

-- one more part
pub text_of_parts-push : (parts : List (List ℕ)) (part : List ℕ) → 0 < length parts → text_of_parts (parts ++ (part ∷ [])) ≡ text_of_parts parts ++ (58 ∷ (58 ∷ text_of_part part))
text_of_parts-push [] part some = absurd (omega (arith, some))
text_of_parts-push (first ∷ []) part some = refl
text_of_parts-push (first ∷ (next ∷ parts)) part some =
    ap (λ (xs : List ℕ). text_of_part first ++ (58 ∷ (58 ∷ xs))) (text_of_parts-push (next ∷ parts) part (omega arith))
    ∙ sym (append_assoc (text_of_part first) (58 ∷ (58 ∷ text_of_parts (next ∷ parts))) (58 ∷ (58 ∷ text_of_part part)))

text_of_parts-append-le : (parts more : List (List ℕ)) → length (text_of_parts parts) ≤ length (text_of_parts (parts ++ more))
text_of_parts-append-le [] more = omega arith
text_of_parts-append-le (part ∷ []) [] = le_refl (length (text_of_part part))
text_of_parts-append-le (part ∷ []) (next ∷ more) = omega (arith, length-append (text_of_part part) (58 ∷ (58 ∷ text_of_parts (next ∷ more))))
text_of_parts-append-le (part ∷ (next ∷ parts)) more =
    omega (arith, text_of_parts-append-le (next ∷ parts) more, length-append (text_of_part part) (58 ∷ (58 ∷ text_of_parts (next ∷ parts))), length-append (text_of_part part) (58 ∷ (58 ∷ text_of_parts ((next ∷ parts) ++ more))))

-- the text of parts, with the text of one more
pub text_with_part : (read : List (List ℕ)) (part : List ℕ) (position : ℕ) → All IsPart read → position ≡ length (flat_map written read) → text_of_parts (read ++ (part ∷ [])) ≡ text_of_parts read ++ (separator position ++ text_of_part part)
text_with_part [] part position are at = ap (λ (n : ℕ). separator n ++ text_of_part part) (sym at)
text_with_part (first ∷ read) part zero are at = absurd (omega (arith, at, (All-head IsPart first read are).some, length-append (written first) (flat_map written read), length-append (decimal (length first)) first))
text_with_part (first ∷ read) part (suc n) are at =
    text_of_parts-push (first ∷ read) part (omega arith)
    ∙ ap (λ (b : Bool). text_of_parts (first ∷ read) ++ (cond b [] (58 ∷ (58 ∷ [])) ++ text_of_part part)) (sym (ne_eqb (suc n) 0 (λ e. absurd (omega (arith, e)))))

-- the text of parts is no shorter than that of the first of them and the next one
pub text_with_part-le : (read later : List (List ℕ)) (part : List ℕ) (position : ℕ) → All IsPart read → position ≡ length (flat_map written read) → length (text_of_parts read) + length (separator position ++ text_of_part part) ≤ length (text_of_parts (read ++ (part ∷ later)))
text_with_part-le read later part position are at =
    let whole : (read ++ (part ∷ [])) ++ later ≡ read ++ (part ∷ later) = append_assoc read (part ∷ []) later in
    let one = ap length (text_with_part read part position are at) in
    let more = text_of_parts-append-le (read ++ (part ∷ [])) later in
    let le : length (text_of_parts (read ++ (part ∷ []))) ≤ length (text_of_parts (read ++ (part ∷ later))) = subst (λ (ps : List (List ℕ)). length (text_of_parts (read ++ (part ∷ []))) ≤ length (text_of_parts ps)) whole more in
    omega (arith, one, le, length-append (text_of_parts read) (separator position ++ text_of_part part))

-- parts that are written have bytes
pub some_bytes : (parts : List (List ℕ)) → All IsPart parts → 0 < length parts → 0 < length (flat_map written parts)
some_bytes [] are some = absurd (omega (arith, some))
some_bytes (part ∷ parts) are some = omega (arith, (All-head IsPart part parts are).some, length-append (written part) (flat_map written parts), length-append (decimal (length part)) part)
