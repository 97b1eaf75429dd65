use Rattle.std.proofs.Common.{subst, ℕ, List}
use Rattle.std.proofs.lemmas.Result.{err_from_is_err_and}
use Rattle.code_unwind.specs.Operations.{NumberAt}
use Rattle.code_unwind.specs.declared.operation.Number.TheVariants as numbers
use Rattle.code_unwind.proofs.ExpressionLemmas.{uleb128_rest}
use Rattle.code_unwind.proofs.operation.read_register.Goals as goal

pub returns-in_err-register-clause-none : goal.returns-in_err-register-clause-none
returns-in_err-register-clause-none c =
    let p = err_from_is_err_and c.from_residual.result c.from_residual.ensures.1 in
    rw (p.1, p.2) (c.in_err-register.ensures.none.0, λ op rest at. c.in_err-register.ensures.none.1 at.0 at.1 at.3)

pub returns-in_err-offset-clause-none : goal.returns-in_err-offset-clause-none
returns-in_err-offset-clause-none c =
    let p = err_from_is_err_and c.from_residual-in_err-offset.result c.from_residual-in_err-offset.ensures.1 in
    rw (p.1, p.2) (
      c.in_err-offset.ensures.none.0,
      λ op rest at.
          let same = uleb128_rest c.args.bytes.now at.0 c.in_ok-register.register at.1 c.in_ok-register.rest.now at.3.0 c.in_ok-register.ensures.found.0 in
          let Sleb128 : List ℕ → Type 0 = λ mid. NumberAt numbers.Sleb128 mid at.2 rest in
          c.in_err-offset.ensures.none.1 at.2 rest (subst Sleb128 same at.4),
    )
