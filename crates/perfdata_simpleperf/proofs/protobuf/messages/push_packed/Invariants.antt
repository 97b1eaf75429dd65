use Rattle.std.proofs.Common.{◌≡◌, List, ℕ, length, ◌++◌}
use Rattle.perfdata_simpleperf.specs.Protobuf.Messages.{NumbersAt}
use Rattle.perfdata_simpleperf.proofs.protobuf.messages.push_packed.Given as goal

abbrev pub invariant-numbers : goal.invariant-numbers
invariant-numbers l = (ns : List ℕ) × NumbersAt l.bytes ns l.rest × (l.offsets.items ≡ l.fn.offsets.items ++ ns)

abbrev pub decreases-numbers : goal.decreases-numbers
decreases-numbers l = length l.rest
