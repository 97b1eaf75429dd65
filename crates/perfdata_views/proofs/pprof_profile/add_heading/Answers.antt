use Rattle.std.proofs.Common.{List, Bool, subst}
use Rattle.perfdata_profile.specs.Profiles.{lists_of}
use Rattle.perfdata_profile.specs.SampleSums.{entries_of}
use Rattle.perfdata_views.specs.steps.PprofSamples.{AreTypes}
use Rattle.perfdata_views.proofs.PprofConverting.{heading}
use Rattle.pprof.specs.Builders.{tables_of}
use Rattle.perfdata_views.proofs.pprof_profile.add_heading.Goals as goal

pub returns : goal.returns
returns c = λ empty.
    let described = c.args.description.columns.now in
    let keys = entries_of c.args.profile.now.sums in
    let types = subst (λ (marks : List Bool). AreTypes (tables_of c.add_types.new.builder) described marks c.in_ok-values.values.items) c.as_slice.ensures.value c.in_ok-values.ensures.columns in
    heading (lists_of c.args.profile.now.tables) keys described c.in_ok-used.used.items c.in_ok-values.values.items (tables_of c.args.builder.now)
    (tables_of c.add_types.new.builder) (tables_of c.add_program.new.builder) (tables_of c.add_mappings.new.builder) empty c.in_ok-used.ensures c.in_ok-values.ensures.first types c.in_ok-values.ensures.extends
    c.in_ok-add_program.ensures c.in_ok-add_mappings.ensures
