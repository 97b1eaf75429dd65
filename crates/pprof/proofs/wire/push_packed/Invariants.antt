use Rattle.std.proofs.Common.{◌≡◌, take}
use Rattle.std.specs.List.{flat_map}
use Rattle.pprof.specs.Wire.{varint}
use Rattle.pprof.proofs.wire.push_packed.Given as goal

abbrev pub invariant-numbers : goal.invariant-numbers
invariant-numbers l = l.packed.items ≡ flat_map varint (take l.number-index l.numbers)
