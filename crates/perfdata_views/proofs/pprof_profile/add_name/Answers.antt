use Rattle.std.proofs.Common.{◌∙◌, ℕ, List, Some, ap}
use Rattle.std.specs.Str.Lossy.{utf8_lossy}
use Rattle.perfdata_views.proofs.PprofTables.{interned_extends, ok_of, on_ok_of}
use Rattle.pprof.specs.Builders.{tables_of}
use Rattle.perfdata_views.proofs.pprof_profile.add_name.Goals as goal

pub returns-clause-ok : goal.returns-clause-ok
returns-clause-ok c = ok_of c.text.result (λ index interns. interns.is_at ∙ ap (λ (name : List ℕ). Some (utf8_lossy name)) c.name_or_unknown.ensures) c.text.ensures.ok

pub returns-clause-extends : goal.returns-clause-extends
returns-clause-extends c = on_ok_of c.text.result (λ index interns. interned_extends (tables_of c.args.builder.now) (tables_of c.text.new.self)
    (utf8_lossy c.name_or_unknown.result.now) index interns c.text.ensures.once c.text.ensures.rest) c.text.ensures.ok
