use Rattle.std.proofs.Common.{◌++◌, List, refl, sym, subst}
use Rattle.perfdata_profile.specs.Locating.{located_lists}
use Rattle.perfdata_profile.specs.Samples.{applied_in}
use Rattle.perfdata_profile.proofs.Building.{builds_applied, no_chains, selected_applied}
use Rattle.perfdata_profile.proofs.Counting.{on_ok}
use Rattle.perfdata_spaces.specs.AddressSpaces.{Follows}
use Rattle.perfdata_spaces.specs.Effects.{Applied}
use Rattle.perfdata_profile.proofs.builder.ProfileBuilder.apply.Goals as goal

pub returns-clause-ok : goal.returns-clause-ok
returns-clause-ok g c = on_ok c.record_applied.result (λ options given weight builds.
    let follows = c.in_ok-index.ensures.ok (applied_in given) builds.follows in
    builds_applied g.R.Resolver.meaning options given c.args.self.now _ builds _ (selected_applied c.args.misc c.args.event.now weight c.requires) refl refl refl refl c.in_ok-index.ensures.indices
    (subst (λ (l : List Applied). Follows (applied_in given ++ l) c.apply.new.self) (sym c.requires) follows)
    (no_chains g.R.Resolver.meaning (located_lists c.args.self.now.locator) options.detail _ c.clear.new.self c.clear.ensures))
