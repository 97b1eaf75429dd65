use Rattle.std.proofs.Common.{◌≡◌, ◌++◌, drop}
use Rattle.perfdata_views.specs.steps.FunctionTables.{rows_of}
use Rattle.perfdata_views.proofs.table.used_rows.Given as goal

abbrev pub invariant-names : goal.invariant-names
invariant-names l = l.rows.items ++ rows_of l.number (drop l.number l.tallies) ≡ rows_of 0 l.tallies
