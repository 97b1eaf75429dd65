use Rattle.std.proofs.Common.{◌∙◌, ◌<◌, ◌++◌, ◌∷◌, [], List, ap, append_assoc, arith, get_or, length, sym}
use Rattle.std.proofs.lemmas.List.{map_more, take_all}
use Rattle.perfdata_profile.specs.Profiles.{lists_of}
use Rattle.perfdata_profile.specs.declared.lines.Line.{Line}
use Rattle.perfdata_profile.specs.declared.names.NameId.{NameId}
use Rattle.perfdata_views.specs.steps.Entries.{line_functions}
use Rattle.perfdata_views.proofs.Naming.{functions_found}
use Rattle.perfdata_views.proofs.entries.push_location.Goals as goal

pub lines-preserved : goal.lines-preserved
lines-preserved c =
    let lines = c.in-Some-get.lines.now in
    let first : Line = record { function = record { 0 = 0 }; file = record { 0 = 0 }; line = 0 } in
    let below : c.lines.line-index < length lines = omega arith in
    let next : Line = get_or lines c.lines.line-index first in
    let function = λ (line : Line). line.function in
    c.in_ok-push.ensures.items ∙ ap (λ (ids : List NameId). ids ++ next.function ∷ []) c.lines.invariant
    ∙ append_assoc c.args.functions.now.items _ (next.function ∷ [])
    ∙ ap (λ (ids : List NameId). c.args.functions.now.items ++ ids) (sym (map_more function lines c.lines.line-index first below))

pub returns : goal.returns
returns c =
    let lines = c.in-Some-get.lines.now in
    let found = functions_found (lists_of c.args.tables.now) c.args.id c.in-Some.location lines (sym c.in-Some.ensures) (sym c.in-Some-get.ensures) in
    c.lines.invariant ∙ ap (λ (ls : List Line). c.args.functions.now.items ++ line_functions ls) (take_all c.lines.line-index lines (omega arith))
    ∙ ap (λ (ids : List NameId). c.args.functions.now.items ++ ids) (sym found)
