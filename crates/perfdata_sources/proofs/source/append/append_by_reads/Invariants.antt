use Rattle.std.proofs.Common.{◌≡◌, ℕ, ◌-◌, ◌≤◌, ◌++◌, List, length, vec_capacity}
use Rattle.perfdata_sources.specs.Source.{Consumed}
use Rattle.perfdata_sources.proofs.source.append.append_by_reads.Given as goal

abbrev pub invariant-loop-appended : goal.invariant-loop-appended
invariant-loop-appended g l = (l.appended ≤ l.count) × ((prefix : List ℕ) × (length prefix ≡ l.appended) × (l.buffer.items ≡ l.initial.buffer.items ++ prefix) × Consumed (g.S.Source.state l.initial.source) prefix (g.S.Source.state l.source)) × ((g.S.Source.state l.source).pauses ≡ (g.S.Source.state l.initial.source).pauses) × (g.S.Source.loan l.source ≡ g.S.Source.loan l.initial.source) × (vec_capacity l.initial.buffer ≤ vec_capacity l.buffer)

abbrev pub decreases-loop-appended : goal.decreases-loop-appended
decreases-loop-appended g l = l.count - l.appended
