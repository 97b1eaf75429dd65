use Rattle.std.proofs.Common.{take}
use Rattle.std.specs.List.{AllPass}
use Rattle.demangle_text.specs.Legacy.{is_part_byte}
use Rattle.demangle_text.proofs.legacy.are_part_bytes.Given as goal

abbrev pub invariant-bytes : goal.invariant-bytes
invariant-bytes l = AllPass is_part_byte (take l.byte-index l.bytes)
