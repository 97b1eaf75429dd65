-- Hexadecimal digits are UTF-8.
use Rattle.std.proofs.Common.{◌≡◌, ℕ, zero, suc, ◌<◌, ◌≤◌, List, [], ◌∷◌, IsUtf8, IsAscii, arith, inl, inr, le-ltb}
use Rattle.std.proofs.lemmas.Bool.{cases_lt}
use Rattle.std.proofs.lemmas.Str.{IsUtf8-from_ascii}
use Rattle.std.specs.Char.{digit_value}
use Rattle.std.specs.Str.Parse.{AllDigits}

-- a byte from 123 on is no digit
no_digit : (c : ℕ) → 123 ≤ c → digit_value c ≡ 36
no_digit c h = rw (le-ltb c 48 (omega (arith, h)), le-ltb c 58 (omega (arith, h)), le-ltb c 65 (omega (arith, h)), le-ltb c 91 (omega (arith, h)), le-ltb c 97 (omega (arith, h)), le-ltb c 123 h)

hex_ascii : (c : ℕ) → digit_value c < 16 → c < 128
hex_ascii c h = elim (cases_lt c 123) [
  | inl small ↦ omega (arith, small)
  | inr large ↦ absurd (omega (arith, h, no_digit c large))
]

hex_digits_ascii : (ds : List ℕ) → AllDigits 16 ds → IsAscii ds
hex_digits_ascii [] d i = omega arith
hex_digits_ascii (c ∷ cs) d zero = omega (arith, hex_ascii c d.0)
hex_digits_ascii (c ∷ cs) d (suc i) = hex_digits_ascii cs d.1 i

pub hex_digits_utf8 : (ds : List ℕ) → AllDigits 16 ds → IsUtf8 ds
hex_digits_utf8 ds d = IsUtf8-from_ascii ds (hex_digits_ascii ds d)
