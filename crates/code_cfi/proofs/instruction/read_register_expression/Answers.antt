use Rattle.code_cfi.proofs.ErrorLemmas.{on_any_error}
use Rattle.code_cfi.proofs.UniqueInstructions.{no_register_expression}
use Rattle.code_cfi.proofs.instruction.read_register_expression.Goals as goal

pub returns-in_err-register-clause-none : goal.returns-in_err-register-clause-none
returns-in_err-register-clause-none c = on_any_error c.from_residual.result _ (λ n span rest at. c.in_err-register.ensures.none n at.mid at.first)

pub returns-in_err-span-clause-none : goal.returns-in_err-span-clause-none
returns-in_err-span-clause-none c =
    on_any_error c.from_residual-in_err-span.result _ (no_register_expression c.args.end c.args.bytes.now c.in_ok-register.register c.in_ok-register.rest.now c.in_ok-register.ensures.found c.in_err-span.ensures.none)
