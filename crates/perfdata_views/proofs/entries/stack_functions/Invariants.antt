use Rattle.std.proofs.Common.{◌≡◌, take}
use Rattle.perfdata_profile.specs.Profiles.{lists_of}
use Rattle.perfdata_views.specs.steps.Entries.{stack_functions}
use Rattle.perfdata_views.proofs.entries.stack_functions.Given as goal

abbrev pub invariant-locations : goal.invariant-locations
invariant-locations l = l.functions.items ≡ stack_functions (lists_of l.tables) (take l.id-index l.stack)
