use Rattle.std.proofs.Common.{◌≡◌, ◌++◌, take}
use Rattle.perfdata_views.specs.steps.Entries.{line_functions}
use Rattle.perfdata_views.proofs.entries.push_location.Given as goal

abbrev pub invariant-lines : goal.invariant-lines
invariant-lines l = l.functions.items ≡ l.initial.functions.items ++ line_functions (take l.line-index l.lines)
