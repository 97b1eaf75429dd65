use Rattle.std.proofs.Common.{◌∙◌, ◌<◌, ◌||◌, Bool, ap, arith, get_or, length, sym}
use Rattle.std.proofs.lemmas.List.Folds.{list_any_at, list_any_more}
use Rattle.std.proofs.lemmas.List.{take_all}
use Rattle.std.specs.List.{list_any}
use Rattle.pprof.specs.Tables.{has_filename}
use Rattle.pprof.specs.declared.profile.Line.{Line}
use Rattle.pprof.proofs.builder.has_filenames.Goals as goal

pub returns-then-has_filename : goal.returns-then-has_filename
returns-then-has_filename c =
    let lines = c.args.lines.now in
    let first : Line = record { function_id = 0; line = 0 } in
    let below : c.lines.line-index < length lines = omega arith in
    sym (list_any_at (has_filename c.args.functions.now.keys) lines c.lines.line-index first below (sym c.has_filename.ensures ∙ c.if-has_filename.true))

pub lines-preserved : goal.lines-preserved
lines-preserved c =
    let has = has_filename c.args.functions.now.keys in
    let lines = c.args.lines.now in
    let first : Line = record { function_id = 0; line = 0 } in
    let below : c.lines.line-index < length lines = omega arith in
    list_any_more has lines c.lines.line-index first below ∙ ap (λ (b : Bool). b || has (get_or lines c.lines.line-index first)) c.lines.invariant
    ∙ sym c.has_filename.ensures ∙ c.if-has_filename.false

pub returns : goal.returns
returns c = sym (ap (list_any (has_filename c.args.functions.now.keys)) (sym (take_all c.lines.line-index c.args.lines.now (omega arith))) ∙ c.lines.invariant)
