use Rattle.std.proofs.Common.{◌≡◌, length}
use Rattle.perfdata_events.specs.Words.{remaining_u64s}
use Rattle.perfdata_stacks.specs.Frames.{remaining_chain}
use Rattle.perfdata_stacks.proofs.frames.ChainFramesIterator.next.Given as goal

abbrev pub invariant-values : goal.invariant-values
invariant-values l = remaining_chain l.self ≡ remaining_chain l.initial.self

abbrev pub decreases-values : goal.decreases-values
decreases-values l = length (remaining_u64s l.self.values)
