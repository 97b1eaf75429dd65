use Rattle.std.proofs.Common.{ap, refl}
use Rattle.perfdata_profile.specs.declared.options.ProfileOptions.{ProfileOptions}
use Rattle.perfdata_profile.proofs.Building.{list_of, profile_of}
use Rattle.perfdata_profile.proofs.builder.ProfileBuilder.finish.Goals as goal

pub returns-clause-profile : goal.returns-clause-profile
returns-clause-profile g c = λ options given builds. profile_of g.R.Resolver.meaning options given c.args.self _ builds c.into_tables-tables.ensures refl refl

pub returns-clause-list : goal.returns-clause-list
returns-clause-list g c = λ options given builds. list_of g.R.Resolver.meaning options given c.args.self builds _ c.into_tables-tables.ensures refl refl

pub returns-clause-times : goal.returns-clause-times
returns-clause-times g c = λ options given builds. ap (λ (o : ProfileOptions). o.times) builds.has_options
