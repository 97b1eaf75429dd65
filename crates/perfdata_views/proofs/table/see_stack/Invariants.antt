use Rattle.std.proofs.Common.{map, take}
use Rattle.perfdata_profile.specs.Names.{number_of}
use Rattle.perfdata_views.specs.steps.FunctionTables.{Sees}
use Rattle.perfdata_views.proofs.table.see_stack.Given as goal

abbrev pub invariant-frames : goal.invariant-frames
invariant-frames l = Sees l.initial.tallies (take l.id-index (map number_of l.functions)) l.count l.weight l.tallies
