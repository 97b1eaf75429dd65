use Rattle.std.proofs.Common.{true}
use Rattle.std.proofs.lemmas.List.{length-set}
use Rattle.perfdata_views.proofs.PprofConverting.{kept_true, set_marked}
use Rattle.perfdata_views.proofs.pprof_profile.mark.Goals as goal

pub returns-in-Some-clause-marked : goal.returns-in-Some-clause-marked
returns-in-Some-clause-marked c = λ below. set_marked c.args.used.now.items c.args.column true below

pub returns-in-Some-clause-kept : goal.returns-in-Some-clause-kept
returns-in-Some-clause-kept c = λ index at. kept_true c.args.used.now.items c.args.column index at

pub returns-in-Some-clause-number : goal.returns-in-Some-clause-number
returns-in-Some-clause-number c = length-set c.args.used.now.items c.args.column true

pub returns-in_default-clause-kept : goal.returns-in_default-clause-kept
returns-in_default-clause-kept c = λ index at. at
