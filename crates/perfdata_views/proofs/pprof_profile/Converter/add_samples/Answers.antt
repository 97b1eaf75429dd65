use Rattle.std.proofs.Common.{List, arith, map, subst, take}
use Rattle.std.proofs.lemmas.List.{take_all}
use Rattle.perfdata_profile.specs.Profiles.{valued_entry}
use Rattle.perfdata_profile.specs.SampleSums.{entries_of}
use Rattle.perfdata_profile.specs.declared.sums.SampleKey.{SampleKey}
use Rattle.perfdata_profile.specs.declared.sums.Sums.{Sums}
use Rattle.perfdata_views.specs.Entries.{Entry}
use Rattle.perfdata_views.specs.steps.PprofSamples.{AddsEntries, lists_in}
use Rattle.perfdata_views.proofs.PprofConverting.{entries_more, entries_none, mapped}
use Rattle.perfdata_views.proofs.pprof_profile.Converter.add_samples.Goals as goal

pub entries-init : goal.entries-init
entries-init c = entries_none c.args.self.now c.args.values.now

pub entries-preserved : goal.entries-preserved
entries-preserved c =
    let keys = entries_of c.args.sums.now in
    let value = valued_entry (lists_in c.args.self.now) in
    let next = entries_more c.args.self.now c.entries.self c.add_entry.new.self c.args.values.now (map value (take c.entries.index keys)) c.find_entry.result.0 c.find_entry.result.1 c.entries.invariant c.in_ok-add_entry.ensures in
    subst (λ (es : List Entry). AddsEntries c.args.self.now c.args.values.now es c.add_entry.new.self) (mapped value keys c.entries.index c.find_entry.result c.find_entry.ensures) next

pub returns : goal.returns
returns c =
    let keys = entries_of c.args.sums.now in
    subst (λ (es : List (SampleKey × Sums)). AddsEntries c.args.self.now c.args.values.now (map (valued_entry (lists_in c.args.self.now)) es) c.entries.self)
    (take_all c.entries.index keys (omega (arith, c.len-index-end.ensures))) c.entries.invariant
