use Rattle.std.proofs.Common.{refl}
use Rattle.std.specs.Str.Lossy.{utf8_lossy}
use Rattle.perfdata_views.proofs.PprofConverting.{function_is}
use Rattle.perfdata_views.proofs.PprofTables.{extends_trans, function_extends, interned_extends, ok_of, on_ok_of}
use Rattle.pprof.specs.Builders.{tables_of}
use Rattle.pprof.specs.declared.builder.FunctionNames.{FunctionNames}
use Rattle.perfdata_views.proofs.pprof_profile.add_function.Goals as goal

pub returns-clause-ok : goal.returns-clause-ok
returns-clause-ok c =
    let second = tables_of c.text.new.self in
    let third = tables_of c.text-2.new.self in
    let last = tables_of c.function.new.self in
    let names : FunctionNames = record { name = c.in_ok-name.name; system_name = c.in_ok-name.name; filename = c.in_ok-filename.filename } in
    let more = interned_extends second third (utf8_lossy c.args.file.now) c.in_ok-filename.filename c.in_ok-filename.ensures.ok c.text-2.ensures.once c.text-2.ensures.rest in
    ok_of c.function.result (λ id identifies. function_is second third last names id (utf8_lossy c.args.name.now) (utf8_lossy c.args.file.now) c.in_ok-name.ensures.ok.is_at more
    c.in_ok-filename.ensures.ok.is_at refl identifies (function_extends third last names id identifies c.function.ensures.once c.function.ensures.rest)) c.function.ensures.ok

pub returns-clause-extends : goal.returns-clause-extends
returns-clause-extends c =
    let first = tables_of c.args.builder.now in
    let second = tables_of c.text.new.self in
    let third = tables_of c.text-2.new.self in
    let last = tables_of c.function.new.self in
    let names : FunctionNames = record { name = c.in_ok-name.name; system_name = c.in_ok-name.name; filename = c.in_ok-filename.filename } in
    let named = interned_extends first second (utf8_lossy c.args.name.now) c.in_ok-name.name c.in_ok-name.ensures.ok c.text.ensures.once c.text.ensures.rest in
    let more = interned_extends second third (utf8_lossy c.args.file.now) c.in_ok-filename.filename c.in_ok-filename.ensures.ok c.text-2.ensures.once c.text-2.ensures.rest in
    on_ok_of c.function.result (λ id identifies. extends_trans first third last (extends_trans first second third named more)
    (function_extends third last names id identifies c.function.ensures.once c.function.ensures.rest)) c.function.ensures.ok
