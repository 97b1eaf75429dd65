-- Rust's names of before: parts with their lengths, the last of which is a hash; and their text.
use Rattle.std.specs.Prelude.{◌≡◌, ◌+◌, ◌<◌, ◌≤◌, ◌⊎◌, ◌==◌, ◌&&◌, ◌||◌, if◌then◌else◌, ℕ, Bool, List, [], ◌∷◌, ◌++◌}
use Rattle.std.specs.Prelude.{All, Option, None, Some, drop, take, length, slice_index, nat_eq, nat_lt, nat_le, codes, encode_utf8}
use Rattle.std.specs.Char.{IsAsciiDigit, is_ascii_alphanumeric}
use Rattle.std.specs.Fmt.{decimal}
use Rattle.std.specs.List.{AllPass, flat_map, join_with_byte, list_all, slice_split, starts_with}
use Rattle.std.specs.Option.{option_map_or}
use Rattle.std.specs.Str.{bytes_eq}
use Rattle.std.specs.Str.Parse.{digits_value}
use Rattle.demangle_text.specs.Text.{text_of}
use Rattle.demangle_text.specs.declared.text.Text.{Text}

-- a lowercase hexadecimal digit
abbrev pub IsHexDigit : ℕ → Type 0
IsHexDigit byte = ((48 ≤ byte) × (byte ≤ 57)) ⊎ ((97 ≤ byte) × (byte ≤ 102))

-- `h` and 16 lowercase hexadecimal digits
pub record IsHash (part : List ℕ) : Type 0 where
  pub size : length part ≡ 17
  pub letter : slice_index part 0 ≡ 104
  pub digits : All IsHexDigit (drop 1 part)

-- whether parts may have a byte: a letter, a digit, `_`, `$`, `.`, `:` or `@`
unfoldable pub is_part_byte : ℕ → Bool
is_part_byte b = is_ascii_alphanumeric b || (b == 95 || (b == 36 || (b == 46 || (b == 58 || b == 64))))

-- a part of a name: at least one byte, of which the first is no digit
pub record IsPart (part : List ℕ) : Type 0 where
  pub some : 0 < length part
  pub first : ¬ IsAsciiDigit (slice_index part 0)
  pub bytes : AllPass is_part_byte part

-- how names write a part: its length in decimal digits, and its bytes
abbrev pub written : List ℕ → List ℕ
written part = decimal (length part) ++ part

-- these bytes write these parts, one after the other
pub record AreParts (bytes : List ℕ) (parts : List (List ℕ)) : Type 0 where
  pub are : All IsPart parts
  pub whole : bytes ≡ flat_map written parts

-- a name, after `_ZN`: the bytes of its parts, at least one, a hash, `E`, and what follows
pub record IsLegacyName (name bytes suffix : List ℕ) : Type 0 where
  pub parts : List (List ℕ)
  pub hash : List ℕ
  pub are : AreParts bytes parts
  pub some : 0 < length parts
  pub is_hash : IsHash hash
  pub whole : name ≡ bytes ++ (written hash ++ 69 ∷ suffix)

-- the text of bytes outside of escapes: `..` is `::`
abbrev pub with_colons : List ℕ → List ℕ
with_colons [] = []
with_colons (b ∷ []) = b ∷ []
with_colons (b ∷ (c ∷ rest)) = if b == 46 && c == 46 then 58 ∷ 58 ∷ with_colons rest else b ∷ with_colons (c ∷ rest)

-- whether a byte is `$`
abbrev pub is_dollar : ℕ → Bool
is_dollar b = b == 36

abbrev pub is_visible : ℕ → Bool
is_visible c = nat_le 32 c && (nat_lt c 0xD800 || (nat_lt 0xDFFF c && nat_lt c 0x11_0000))

-- whether a byte is a lowercase hexadecimal digit
abbrev pub is_hex_digit : ℕ → Bool
is_hex_digit b = (nat_le 48 b && nat_le b 57) || (nat_le 97 b && nat_le b 102)

-- the character with this number in lowercase hexadecimal digits, unless it is a control character
unfoldable pub hex_character : List ℕ → Option ℕ
hex_character digits =
    if list_all is_hex_digit digits && is_visible (digits_value 16 digits) then Some (digits_value 16 digits) else None

-- the character of the escape `$NAME$`, of which this is the name; other names have none
unfoldable pub escaped : List ℕ → Option ℕ
escaped name =
    if bytes_eq name (codes "C") then Some 44 else (
    if bytes_eq name (codes "SP") then Some 64 else (
    if bytes_eq name (codes "BP") then Some 42 else (
    if bytes_eq name (codes "RF") then Some 38 else (
    if bytes_eq name (codes "LT") then Some 60 else (
    if bytes_eq name (codes "GT") then Some 62 else (
    if bytes_eq name (codes "LP") then Some 40 else (
    if bytes_eq name (codes "RP") then Some 41 else (
    if bytes_eq (take 1 name) (codes "u") then hex_character (drop 1 name) else None))))))))

-- the text of what `$` separates: plain bytes, the name of an escape, plain bytes, and so on. From the first `$` on
-- that starts no escape, all bytes stay as they are.
abbrev pub text_of_fields : List (List ℕ) → List ℕ
text_of_fields [] = []
text_of_fields (plain ∷ []) = with_colons plain
text_of_fields (plain ∷ (last ∷ [])) = with_colons plain ++ 36 ∷ last
text_of_fields (plain ∷ (name ∷ (next ∷ fields))) =
    with_colons plain ++ option_map_or (λ c. encode_utf8 c ++ text_of_fields (next ∷ fields)) (escaped name) (36 ∷ join_with_byte 36 (name ∷ (next ∷ fields)))

-- the text of bytes with escapes
abbrev pub text_of_escapes : List ℕ → List ℕ
text_of_escapes bytes = text_of_fields (slice_split is_dollar bytes)

-- a part without the `_` that is before an escape at its beginning
abbrev pub without_underscore : List ℕ → List ℕ
without_underscore part = if starts_with nat_eq part (codes "_$") then drop 1 part else part

-- the text of a part
abbrev pub text_of_part : List ℕ → List ℕ
text_of_part part = text_of_escapes (without_underscore part)

-- the text of parts, with `::` between them
abbrev pub text_of_parts : List (List ℕ) → List ℕ
text_of_parts [] = []
text_of_parts (part ∷ []) = text_of_part part
text_of_parts (part ∷ (next ∷ parts)) = text_of_part part ++ (58 ∷ (58 ∷ text_of_parts (next ∷ parts)))

-- the new text is the old one with the text of these parts after it
pub record AppendsParts (bytes : List ℕ) (old new : Text) : Type 0 where
  pub parts : List (List ℕ)
  pub are : AreParts bytes parts
  pub text : text_of new ≡ text_of old ++ text_of_parts parts
