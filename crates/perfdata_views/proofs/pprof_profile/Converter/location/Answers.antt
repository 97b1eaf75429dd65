use Rattle.perfdata_views.proofs.PprofConverting.{converts_same}
use Rattle.perfdata_views.proofs.PprofTables.{ok_of}
use Rattle.perfdata_views.proofs.pprof_profile.Converter.location.Goals as goal

pub returns-in-Some-clause-ok : goal.returns-in-Some-clause-ok
returns-in-Some-clause-ok c = λ cached within. c.in-Some.ensures cached

pub returns-in-Some-clause-converts : goal.returns-in-Some-clause-converts
returns-in-Some-clause-converts c = converts_same c.args.self.now

pub returns-in-None-clause-ok : goal.returns-in-None-clause-ok
returns-in-None-clause-ok c = ok_of c.new_location.result (λ row is cached within. is within) c.new_location.ensures.ok
