use Rattle.std.proofs.Common.{◌-◌, ◌<◌, ◌≤◌, ◌∙◌, arith, ap, get_or, length, sym}
use Rattle.std.proofs.lemmas.List.{get_or_default}
use Rattle.code_symbols.specs.declared.boundary.Boundary.{Boundary}
use Rattle.code_symbols.proofs.AppendLemmas.{append_after, append_before, none_boundary, none_of}
use Rattle.code_symbols.proofs.layer.append_point.Goals as goal

pub returns-then-last-start : goal.returns-then-last-start
returns-then-last-start c =
    let cs = c.args.boundaries.now in
    let some : 0 < length cs = omega (arith, c.if-count-eq0.false) in
    let last : Boundary = get_or cs (length cs - 1) none_boundary in
    let is = get_or_default cs (length cs - 1) none_boundary last (omega (arith, some)) in
    let none = none_of last.symbol (sym c.is_some.ensures ∙ c.if-is_some.false) in
    append_after cs c.args.start c.args.end last some is none c.if-end-last.false c.if-last-start.true

pub returns : goal.returns
returns c =
    let cs = c.args.boundaries.now in
    let some : 0 < length cs = omega (arith, c.if-count-eq0.false) in
    let last : Boundary = get_or cs (length cs - 1) none_boundary in
    let is = get_or_default cs (length cs - 1) none_boundary last (omega (arith, some)) in
    let none = none_of last.symbol (sym c.is_some.ensures ∙ c.if-is_some.false) in
    let second : (get_or cs (length cs - 2) none_boundary).start ≤ c.args.start = omega (arith, c.if-start-boundaries.false) in
    append_before cs c.args.start c.args.end last some is none c.if-end-last.false (omega (arith, c.if-last-start.false))
    (λ d two. omega (arith, second, ap (λ e. e.start) (get_or_default cs (length cs - 2) d none_boundary (omega (arith, two)))))
