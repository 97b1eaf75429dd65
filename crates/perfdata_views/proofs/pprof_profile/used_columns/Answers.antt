use Rattle.std.proofs.Common.{List, arith, subst, take}
use Rattle.std.proofs.lemmas.List.{take_all}
use Rattle.perfdata_profile.specs.SampleSums.{entries_of}
use Rattle.perfdata_profile.specs.declared.sums.SampleKey.{SampleKey}
use Rattle.perfdata_profile.specs.declared.sums.Sums.{Sums}
use Rattle.perfdata_views.specs.steps.PprofSamples.{AreUsed}
use Rattle.perfdata_views.proofs.PprofConverting.{taken, used_more, used_none}
use Rattle.perfdata_views.proofs.pprof_profile.used_columns.Goals as goal

pub entries-init : goal.entries-init
entries-init c = used_none c.args.count c.in_ok-used.used.items (c.in_ok-used.ensures.items_if_clones_equal (λ y is. is))

pub entries-preserved : goal.entries-preserved
entries-preserved c =
    let entries = entries_of c.args.sums.now in
    let next = used_more (take c.entries.index entries) c.find_entry.result c.args.count c.entries.used.items c.mark.new.used.items c.entries.invariant c.mark.ensures.marked c.mark.ensures.kept c.mark.ensures.number in
    subst (λ (es : List (SampleKey × Sums)). AreUsed es c.args.count c.mark.new.used.items) (taken entries c.entries.index c.find_entry.result c.find_entry.ensures) next

pub returns : goal.returns
returns c =
    let entries = entries_of c.args.sums.now in
    subst (λ (es : List (SampleKey × Sums)). AreUsed es c.args.count c.entries.used.items) (take_all c.entries.index entries (omega (arith, c.len-index-end.ensures))) c.entries.invariant
