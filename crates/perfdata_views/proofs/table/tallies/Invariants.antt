use Rattle.std.proofs.Common.{take}
use Rattle.perfdata_profile.specs.Names.{names_of}
use Rattle.perfdata_views.specs.Entries.{entries_in}
use Rattle.perfdata_views.specs.steps.FunctionTables.{AreTallies}
use Rattle.perfdata_views.proofs.table.tallies.Given as goal

abbrev pub invariant-entries : goal.invariant-entries
invariant-entries l = AreTallies (names_of l.profile.tables.names) (take l.index (entries_in l.profile)) l.tallies.items
