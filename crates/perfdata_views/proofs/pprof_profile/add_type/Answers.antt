use Rattle.std.proofs.Common.{◌≡◌, ℕ, List, rules, subst}
use Rattle.std.specs.Str.Lossy.{utf8_lossy}
use Rattle.perfdata_views.specs.PprofSamples.{IsText}
use Rattle.perfdata_views.proofs.PprofTables.{interned_extends, ok_of, on_ok_of}
use Rattle.perfdata_views.proofs.PprofTypes.{type_added, type_first, type_is}
use Rattle.pprof.specs.Builders.{tables_of}
use Rattle.perfdata_views.proofs.pprof_profile.add_type.Goals as goal

pub returns-clause-ok : goal.returns-clause-ok
returns-clause-ok c =
    let first = tables_of c.args.builder.now in
    let second = tables_of c.text.new.self in
    let third = tables_of c.text-2.new.self in
    let named = interned_extends first second (utf8_lossy c.args.name.now) c.in_ok-kind.kind c.in_ok-kind.ensures.ok c.text.ensures.once c.text.ensures.rest in
    let has_unit = interned_extends second third (utf8_lossy c.as_bytes.result.now) c.in_ok-unit.unit c.in_ok-unit.ensures.ok c.text-2.ensures.once c.text-2.ensures.rest in
    let bytes : c.as_bytes.result.now ≡ c.args.unit.now = search rules in
    let unit_is = subst (λ (text : List ℕ). IsText third c.in_ok-unit.unit (utf8_lossy text)) bytes c.in_ok-unit.ensures.ok.is_at in
    ok_of c.add_type.result (λ index interns. type_is first second third (tables_of c.add_type.new.self) named has_unit c.in_ok-kind.kind c.in_ok-unit.unit index interns c.add_type.ensures.rest
    c.args.name.now c.args.unit.now c.in_ok-kind.ensures.ok.is_at unit_is) c.add_type.ensures.ok

pub returns-clause-extends : goal.returns-clause-extends
returns-clause-extends c =
    let first = tables_of c.args.builder.now in
    let second = tables_of c.text.new.self in
    let third = tables_of c.text-2.new.self in
    let named = interned_extends first second (utf8_lossy c.args.name.now) c.in_ok-kind.kind c.in_ok-kind.ensures.ok c.text.ensures.once c.text.ensures.rest in
    let has_unit = interned_extends second third (utf8_lossy c.as_bytes.result.now) c.in_ok-unit.unit c.in_ok-unit.ensures.ok c.text-2.ensures.once c.text-2.ensures.rest in
    on_ok_of c.add_type.result (λ index interns. type_added first second third (tables_of c.add_type.new.self) named has_unit c.in_ok-kind.kind c.in_ok-unit.unit index interns c.add_type.ensures.rest) c.add_type.ensures.ok

pub returns-clause-first : goal.returns-clause-first
returns-clause-first c =
    let first = tables_of c.args.builder.now in
    let second = tables_of c.text.new.self in
    let third = tables_of c.text-2.new.self in
    let named = interned_extends first second (utf8_lossy c.args.name.now) c.in_ok-kind.kind c.in_ok-kind.ensures.ok c.text.ensures.once c.text.ensures.rest in
    let has_unit = interned_extends second third (utf8_lossy c.as_bytes.result.now) c.in_ok-unit.unit c.in_ok-unit.ensures.ok c.text-2.ensures.once c.text-2.ensures.rest in
    ok_of c.add_type.result (λ index interns. type_first first second third (tables_of c.add_type.new.self) named has_unit c.in_ok-kind.kind c.in_ok-unit.unit index interns c.add_type.ensures.rest) c.add_type.ensures.ok
