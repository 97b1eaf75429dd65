use Rattle.std.proofs.Common.{All, take}
use Rattle.demangle_text.specs.Legacy.{IsHexDigit}
use Rattle.demangle_text.proofs.legacy.are_hex_digits.Given as goal

abbrev pub invariant-bytes : goal.invariant-bytes
invariant-bytes l = All IsHexDigit (take l.byte-index l.bytes)
