use Rattle.perfdata_profile.proofs.Building.{builds_unselected}
use Rattle.perfdata_profile.proofs.builder.ProfileBuilder.add_record.Goals as goal

pub returns-in-Sample-None-clause-ok : goal.returns-in-Sample-None-clause-ok
returns-in-Sample-None-clause-ok g c = rw (c.in-Sample-None.is-0, c.in-Sample-None.is-1) (λ options given builds. builds_unselected g.R.Resolver.meaning options given c.args.self.now c.args.misc c.in-Sample-None.field-0-0 builds)

pub returns-in-Sample-Some-clause-ok : goal.returns-in-Sample-Some-clause-ok
returns-in-Sample-Some-clause-ok g c = rw (c.in-Sample-Some.is-0, c.in-Sample-Some.is-1) c.count.ensures.ok

pub returns-in-Ok : goal.returns-in-Ok
returns-in-Ok g c = record { ok = λ options given builds. c.in-Ok.ensures.ok options given c.args.weight builds; err = tt }
