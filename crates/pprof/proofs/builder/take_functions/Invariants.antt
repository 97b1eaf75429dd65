use Rattle.std.proofs.Common.{◌≡◌, map}
use Rattle.std.specs.Map.Iter.{deref}
use Rattle.pprof.specs.Rows.{numbered}
use Rattle.pprof.specs.Tables.{function_row}
use Rattle.pprof.proofs.builder.take_functions.Given as goal

abbrev pub invariant-rows : goal.invariant-rows
invariant-rows l = l.functions.items ≡ numbered function_row 1 (map deref l.yielded)
