use Rattle.std.proofs.Common.{◌≡◌, ◌<◌, ◌^◌, All, take}
use Rattle.std.specs.Str.Parse.{digits_value}
use Rattle.demangle_text.specs.Legacy.{IsHexDigit}
use Rattle.demangle_text.proofs.hex.hex_number.Given as goal

abbrev pub invariant-digits : goal.invariant-digits
invariant-digits l =
    All IsHexDigit (take l.byte-index l.digits) × (l.number ≡ digits_value 16 (take l.byte-index l.digits)) × (l.number < 2 ^ 64)
