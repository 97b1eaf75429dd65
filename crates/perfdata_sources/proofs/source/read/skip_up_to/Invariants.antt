use Rattle.std.proofs.Common.{◌≡◌, ℕ, ◌-◌, ◌≤◌, List, length}
use Rattle.perfdata_sources.specs.Source.{Consumed}
use Rattle.perfdata_sources.proofs.source.read.skip_up_to.Given as goal

abbrev pub invariant-loop-skipped : goal.invariant-loop-skipped
invariant-loop-skipped g l = (l.skipped ≤ l.count) × ((prefix : List ℕ) × (length prefix ≡ l.skipped) × Consumed (g.S.Source.state l.initial.source) prefix (g.S.Source.state l.source)) × ((g.S.Source.state l.source).pauses ≡ (g.S.Source.state l.initial.source).pauses) × (g.S.Source.loan l.source ≡ g.S.Source.loan l.initial.source)

abbrev pub decreases-loop-skipped : goal.decreases-loop-skipped
decreases-loop-skipped g l = l.count - l.skipped
