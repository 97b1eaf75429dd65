use Rattle.std.proofs.Common.{◌<◌, ◌^◌, ℕ, List, arith, map, subst, sym}
use Rattle.std.specs.List.{sum_by}
use Rattle.perfdata_profile.specs.Profiles.{lists_of, valued_entry}
use Rattle.perfdata_profile.specs.SampleSums.{entries_of}
use Rattle.perfdata_profile.specs.Sums.{entry_samples, entry_weight}
use Rattle.perfdata_views.specs.Entries.{entries_in}
use Rattle.perfdata_views.specs.declared.pprof_profile.Converter.{Converter}
use Rattle.perfdata_views.specs.steps.PprofSamples.{AddsEntries, HasHeading, lists_in}
use Rattle.perfdata_views.proofs.PprofConverting.{converted}
use Rattle.perfdata_views.proofs.PprofTables.{ok_of}
use Rattle.pprof.specs.Messages.{profile_value}
use Rattle.pprof.specs.Builders.{tables_of}
use Rattle.perfdata_views.proofs.pprof_profile.convert.Goals as goal

pub returns : goal.returns
returns c =
    let lists = lists_of c.args.profile.now.tables in
    let keys = entries_of c.args.profile.now.sums in
    let described = c.args.description.columns.now in
    let columns = c.in_ok-values.values.items in
    let old : Converter = c.in_ok-converter.converter in
    let new : Converter = c.add_samples.new.self in
    let head = subst (HasHeading described (entries_in c.args.profile.now) columns) (sym c.in_ok-converter.ensures.rows) (c.in_ok-values.ensures c.in_ok-builder.ensures) in
    let adds = subst (λ (values : List ℕ). AddsEntries old values (map (valued_entry (lists_in old)) keys) new) c.as_slice.ensures.value c.in_ok-add_samples.ensures in
    let fits = c.args.profile.now.sums.fits in
    let samples : sum_by entry_samples keys < 2 ^ 63 = omega (arith, fits.0, c.args.profile.now.sums.samples_summed) in
    let weights : sum_by entry_weight keys < 2 ^ 63 = omega (arith, fits.1, c.args.profile.now.sums.weights_summed) in
    ok_of c.finish.result (λ made builds. converted lists keys described columns old new (tables_of c.add_summary.new.builder) c.in_ok-summary.summary (profile_value made)
    c.in_ok-converter.ensures.lists head c.in_ok-converter.ensures.cached adds samples weights c.in_ok-summary.ensures builds) c.finish.ensures
