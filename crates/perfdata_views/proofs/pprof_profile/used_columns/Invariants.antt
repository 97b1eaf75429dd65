use Rattle.std.proofs.Common.{take}
use Rattle.perfdata_profile.specs.SampleSums.{entries_of}
use Rattle.perfdata_views.specs.steps.PprofSamples.{AreUsed}
use Rattle.perfdata_views.proofs.pprof_profile.used_columns.Given as goal

abbrev pub invariant-entries : goal.invariant-entries
invariant-entries l = AreUsed (take l.index (entries_of l.sums)) l.count l.used.items
