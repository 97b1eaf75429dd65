use Rattle.std.proofs.Common.{rules, ◌≡◌, ◌∙◌, None}
use Rattle.std.specs.Map.{lookup}
use Rattle.indexmap.proofs.CallerLemmas.{insert_entry-new}
use Rattle.perfdata_profile.proofs.Deciding.{eq_key}
use Rattle.perfdata_profile.proofs.Summing.{pushed_totals}
use Rattle.perfdata_profile.proofs.sums.SampleSums.add_entry.Goals as goal

pub invariant_of-self : goal.invariant_of-self
invariant_of-self c =
    let absent : lookup (eq_key c.args.key) c.args.self.now.entries.entries ≡ None = search rules in
    let longer = c.in-Ok.ensures.entries ∙ insert_entry-new eq_key c.args.self.now.entries c.args.key _ absent in
    let totals = pushed_totals c.args.self.now.entries.entries c.insert.new.self.entries c.args.key c.args.sums c.args.self.now.total c.in-Some.total
    c.args.self.now.samples_summed c.args.self.now.weights_summed c.in-Some.ensures.some.0 c.in-Some.ensures.some.1 longer in
    record { samples_summed = totals.0; weights_summed = totals.1; fits = c.in-Some.ensures.fits }
