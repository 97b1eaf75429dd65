use Rattle.std.proofs.Common.{◌≡◌, ◌∙◌, ℕ, List, Some, ap, rules}
use Rattle.std.specs.Str.Lossy.{utf8_lossy}
use Rattle.hex.specs.Hex.{encode_lower}
use Rattle.perfdata_views.proofs.PprofTables.{interned_extends, ok_of, on_ok_of}
use Rattle.pprof.specs.Builders.{tables_of}
use Rattle.perfdata_views.proofs.pprof_profile.add_build_id.Goals as goal

pub returns-clause-ok : goal.returns-clause-ok
returns-clause-ok c =
    let digits : c.as_bytes.result.now ≡ encode_lower c.args.bytes.now = search rules in
    ok_of c.text.result (λ index interns. interns.is_at ∙ ap (λ (text : List ℕ). Some (utf8_lossy text)) digits) c.text.ensures.ok

pub returns-clause-extends : goal.returns-clause-extends
returns-clause-extends c = on_ok_of c.text.result (λ index interns. interned_extends (tables_of c.args.builder.now) (tables_of c.text.new.self)
    (utf8_lossy c.as_bytes.result.now) index interns c.text.ensures.once c.text.ensures.rest) c.text.ensures.ok
