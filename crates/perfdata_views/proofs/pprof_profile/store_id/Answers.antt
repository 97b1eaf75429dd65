use Rattle.std.proofs.Common.{inl}
use Rattle.perfdata_views.proofs.PprofConverting.{set_or_kept}
use Rattle.perfdata_views.proofs.pprof_profile.store_id.Goals as goal

pub returns-in-Some : goal.returns-in-Some
returns-in-Some c = λ at other is. set_or_kept c.args.ids.now.items c.args.number c.args.id at other is

pub returns-in_default : goal.returns-in_default
returns-in_default c = λ at other is. inl is
