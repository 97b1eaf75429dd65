use Rattle.std.proofs.Common.{map, take}
use Rattle.perfdata_profile.specs.Profiles.{valued_entry}
use Rattle.perfdata_profile.specs.SampleSums.{entries_of}
use Rattle.perfdata_views.specs.steps.PprofSamples.{AddsEntries, lists_in}
use Rattle.perfdata_views.proofs.pprof_profile.Converter.add_samples.Given as goal

abbrev pub invariant-entries : goal.invariant-entries
invariant-entries l = AddsEntries l.initial.self l.values (map (valued_entry (lists_in l.initial.self)) (take l.index (entries_of l.sums))) l.self
