use Rattle.std.proofs.Common.{◌≡◌, map}
use Rattle.std.specs.Map.Iter.{deref}
use Rattle.pprof.specs.Rows.{numbered}
use Rattle.pprof.specs.steps.Flags.{flagged_row}
use Rattle.pprof.proofs.builder.flagged_mappings.Given as goal

abbrev pub invariant-rows : goal.invariant-rows
invariant-rows l = l.mappings.items ≡ numbered (flagged_row l.flags) 1 (map deref l.yielded)
