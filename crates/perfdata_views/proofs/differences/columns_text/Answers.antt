use Rattle.std.proofs.Common.{◌≡◌, ◌∙◌, ◌++◌, ℕ, List, Vec, Global, ap, append_assoc, sym}
use Rattle.std.proofs.lemmas.List.{append-nil}
use Rattle.std.specs.List.{flat_map}
use Rattle.std.specs.Option.{unwrap_or}
use Rattle.perfdata_views.specs.Counts.{count_of}
use Rattle.perfdata_views.specs.Differences.{line_text, written_count}
use Rattle.perfdata_views.specs.steps.Differences.{columns_of}
use Rattle.perfdata_views.proofs.differences.columns_text.Goals as goal

pub lines-init : goal.lines-init
lines-init c =
    let text : Vec ℕ Global × ℕ → List ℕ = columns_of c.args.old.now (written_count c.args.written c.args.totals) in
    ap (λ (t : List ℕ). t ++ flat_map text c.into_iter-line-iterator.result) c.new-text.ensures.items
    ∙ ap (flat_map text) (c.into_iter-line-iterator.ensures.into_iter_gives ∙ c.iter-line-items.ensures.rest)

pub lines-preserved : goal.lines-preserved
lines-preserved c =
    let text : Vec ℕ Global × ℕ → List ℕ = columns_of c.args.old.now (written_count c.args.written c.args.totals) in
    let line = c.in-Some.line.now in
    let number = c.in-Some.count.now in
    let old : c.written.result ≡ written_count c.args.written c.args.totals (unwrap_or (count_of c.args.old.now line.items) 0) = c.written.ensures ∙ ap (written_count c.args.written c.args.totals) c.count.ensures in
    let pushed = c.in_ok-push_columns.ensures ∙ ap (λ (l : List ℕ). c.lines.text.items ++ line_text l c.written.result number) c.as_slice.ensures.value ∙ ap (λ (n : ℕ). c.lines.text.items ++ line_text line.items n number) old in
    ap (λ (t : List ℕ). t ++ flat_map text c.next.new.self) pushed ∙ append_assoc c.lines.text.items (text (line, number)) (flat_map text c.next.new.self)
    ∙ ap (λ (ls : List (Vec ℕ Global × ℕ)). c.lines.text.items ++ flat_map text ls) (sym c.in-Some.ensures.steps) ∙ c.lines.invariant

pub returns : goal.returns
returns c =
    let text : Vec ℕ Global × ℕ → List ℕ = columns_of c.args.old.now (written_count c.args.written c.args.totals) in
    sym (append-nil c.lines.text.items) ∙ ap (λ (ls : List (Vec ℕ Global × ℕ)). c.lines.text.items ++ flat_map text ls) (sym c.in-None.ensures.steps.0) ∙ c.lines.invariant
