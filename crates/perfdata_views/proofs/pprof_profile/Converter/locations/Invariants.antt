use Rattle.std.proofs.Common.{take}
use Rattle.perfdata_views.specs.steps.PprofSamples.{FindsLocations}
use Rattle.perfdata_views.proofs.pprof_profile.Converter.locations.Given as goal

abbrev pub invariant-frames : goal.invariant-frames
invariant-frames l = FindsLocations l.initial.self (take l.id-index l.stack) l.ids.items l.self
