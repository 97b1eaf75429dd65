use Rattle.std.proofs.Common.{refl}
use Rattle.perfdata_views.proofs.PprofTables.{extends_same, ok_of}
use Rattle.pprof.specs.Builders.{tables_of}
use Rattle.perfdata_views.proofs.pprof_profile.add_any_mapping.Goals as goal

pub returns-in-Some-clause-ok : goal.returns-in-Some-clause-ok
returns-in-Some-clause-ok c = rw c.in-Some.is (ok_of c.add_mapping.result (λ file is address placed. is (placed c.in-Some.id refl).0) c.add_mapping.ensures.ok)

pub returns-in-None-clause-ok : goal.returns-in-None-clause-ok
returns-in-None-clause-ok c = rw c.in-None.is (λ address placed. refl)

pub returns-in-None-clause-extends : goal.returns-in-None-clause-extends
returns-in-None-clause-extends c = extends_same (tables_of c.args.builder.now)
