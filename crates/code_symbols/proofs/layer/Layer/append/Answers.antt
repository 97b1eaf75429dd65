use Rattle.std.proofs.Common.{◌≡◌, ◌+◌, ◌<◌, [], ◌∷◌, ◌++◌, ◌∙◌, arith, ap, sym, subst, take, None, Some}
use Rattle.std.specs.Prelude.{if◌then◌else◌, is_ok}
use Rattle.std.specs.List.Sorted.{IsNonDecreasingBy}
use Rattle.code_symbols.specs.Boundaries.{symbol_from}
use Rattle.code_symbols.specs.steps.Boundaries.{IsAppendPoint}
use Rattle.code_symbols.specs.declared.boundary.Boundary.{Boundary}
use Rattle.code_symbols.proofs.AppendLemmas.{appended-same, sorted-second}
use Rattle.code_symbols.proofs.layer.Layer.append.Goals as goal

pub invariant_of-self-2 : goal.invariant_of-self-2
invariant_of-self-2 c =
    let cs = c.args.self.now.boundaries.items in
    let kept = c.in-Some-append_point.kept in
    let first : Boundary = record { start = c.args.start; symbol = Some c.args.index } in
    let second : Boundary = record { start = c.in-Some.end; symbol = None } in
    let some : 0 < c.args.size = omega (arith, c.if-size-eq0.false) in
    let at : c.in-Some.end ≡ c.args.start + c.args.size = c.in-Some.ensures.1 in
    let point = subst (λ ks. IsAppendPoint ks c.args.start c.in-Some.end kept) c.deref.ensures.value c.in-Some-append_point.ensures in
    let grown : c.push.new.self.items ≡ take kept cs ++ first ∷ [] =
    c.in_ok-push.ensures.items ∙ ap (λ ks. ks ++ first ∷ []) (c.truncate.ensures.items ∙ ap (λ ks. take kept ks) c.in_ok-reserve.ensures.items) in
    let all = c.push-2.ensures.items ∙ ap (λ ks. if is_ok c.push-2.result then ks ++ second ∷ [] else ks) grown in
    record {
      sorted = subst (λ ks. IsNonDecreasingBy (λ e. e.start) ks) (sym all) (sorted-second cs c.args.start c.args.size c.in-Some.end kept c.args.index some at point (is_ok c.push-2.result) c.args.self.now.sorted);
    }

pub returns-clause-ok : goal.returns-clause-ok
returns-clause-ok c = λ x.
    let cs = c.args.self.now.boundaries.items in
    let kept = c.in-Some-append_point.kept in
    let first : Boundary = record { start = c.args.start; symbol = Some c.args.index } in
    let second : Boundary = record { start = c.in-Some.end; symbol = None } in
    let some : 0 < c.args.size = omega (arith, c.if-size-eq0.false) in
    let at : c.in-Some.end ≡ c.args.start + c.args.size = c.in-Some.ensures.1 in
    let point = subst (λ ks. IsAppendPoint ks c.args.start c.in-Some.end kept) c.deref.ensures.value c.in-Some-append_point.ensures in
    let grown : c.push.new.self.items ≡ take kept cs ++ first ∷ [] =
    c.in_ok-push.ensures.items ∙ ap (λ ks. ks ++ first ∷ []) (c.truncate.ensures.items ∙ ap (λ ks. take kept ks) c.in_ok-reserve.ensures.items) in
    ap (λ ks. symbol_from None ks x) (c.in_ok-push-2.ensures.items ∙ ap (λ ks. ks ++ second ∷ []) grown)
    ∙ appended-same cs c.args.start c.args.size c.in-Some.end kept c.args.index some at point x
