use Rattle.std.proofs.Common.{◌∷◌, [], ◌++◌, List, ℕ, ◌∙◌, ap, append_assoc, inl}
use Rattle.std.proofs.lemmas.Result.{err_from_is_err_and}
use Rattle.perfdata_simpleperf.proofs.Decoding.MessageSteps.{numbers_then, begins_with_number}
use Rattle.perfdata_simpleperf.proofs.protobuf.messages.push_packed.Goals as goal

pub numbers-preserved : goal.numbers-preserved
numbers-preserved c =
    let i = c.numbers.invariant in
    let n = c.in_ok-number.number in (
      i.0 ++ n ∷ [],
      numbers_then _ i.0 _ n _ i.1 c.in_ok-number.ensures.on_ok,
      c.in_ok-push.ensures.items ∙ ap (λ (x : List ℕ). x ++ n ∷ []) i.2 ∙ append_assoc _ i.0 (n ∷ []),
    )

pub returns-in_err-push-clause-on_error : goal.returns-in_err-push-clause-on_error
returns-in_err-push-clause-on_error c =
    let p = err_from_is_err_and c.from_residual-in_err-push.result c.from_residual-in_err-push.ensures.1 in
    let i = c.numbers.invariant in
    rw p.1 (inl (p.2, begins_with_number _ i.0 _ c.in_ok-number.number _ i.1 c.in_ok-number.ensures.on_ok))
