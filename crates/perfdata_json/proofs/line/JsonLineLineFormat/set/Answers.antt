use Rattle.std.proofs.Common.{rules, ◌≡◌, ap, [], ◌∷◌, ◌++◌, length, ◌≤◌, drop, ◌∙◌}
use Rattle.std.proofs.lemmas.List.{drop-append-le}
use Rattle.perfdata_json.proofs.line.JsonLineLineFormat.set.Goals as goal

pub returns-in-Ok-clause-on_ok : goal.returns-in-Ok-clause-on_ok
returns-in-Ok-clause-on_ok c =
    let written = c.into_buffers-json.result.0.items in
    let start = c.min-self.result in
    let long : start ≤ length written = search rules in
    let pushed : c.push.new.self.items ≡ written ++ (10 ∷ []) = search rules in
    record { json = drop start written; is = ap (drop start) pushed ∙ drop-append-le start written (10 ∷ []) long }
