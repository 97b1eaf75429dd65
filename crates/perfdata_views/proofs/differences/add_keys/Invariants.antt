use Rattle.std.proofs.Common.{◌≡◌, ◌++◌, ℕ, List, Vec, Global, map}
use Rattle.perfdata_views.specs.Counts.{Added, Counts, counted_lines}
use Rattle.perfdata_views.specs.steps.Differences.{key_of}
use Rattle.perfdata_views.proofs.differences.add_keys.Given as goal

abbrev pub invariant-lines : goal.invariant-lines
invariant-lines l = (before : List (Vec ℕ Global × ℕ)) × (before ++ l.line-iterator ≡ counted_lines l.other)
    × ((added : List Added) → Counts added l.initial.counts → Counts (added ++ map key_of before) l.counts)
