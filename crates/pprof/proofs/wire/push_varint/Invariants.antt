use Rattle.std.proofs.Common.{◌≡◌, ◌++◌}
use Rattle.pprof.specs.Wire.{varint}
use Rattle.pprof.proofs.wire.push_varint.Given as goal

abbrev pub invariant-digits : goal.invariant-digits
invariant-digits l = l.bytes.items ++ varint l.rest ≡ l.initial.bytes.items ++ varint l.number

abbrev pub decreases-digits : goal.decreases-digits
decreases-digits l = l.rest
