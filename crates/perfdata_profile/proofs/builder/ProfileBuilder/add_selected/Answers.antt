use Rattle.perfdata_profile.specs.Samples.{applied_in}
use Rattle.perfdata_profile.proofs.builder.ProfileBuilder.add_selected.Goals as goal

pub returns-clause-ok : goal.returns-clause-ok
returns-clause-ok g c = λ options given builds. record {
  left = c.selected_weight-selected.result;
  filters = c.selected_weight-selected.ensures (applied_in given) builds.follows;
  counts = c.is_some.ensures;
  builds = c.in_ok-add_record.ensures.ok options given builds;
}
