use Rattle.std.proofs.Common.{◌+◌, ◌-◌, length}
use Rattle.code_symbols.proofs.MergeLemmas.{Merges}
use Rattle.code_symbols.proofs.merge.merge.Given as goal

abbrev pub invariant-boundaries : goal.invariant-boundaries
invariant-boundaries l = Merges l.lower l.upper l.state l.boundaries.items

abbrev pub decreases-boundaries : goal.decreases-boundaries
decreases-boundaries l = (length l.lower + length l.upper) - (l.state.lower_count + l.state.upper_count)
