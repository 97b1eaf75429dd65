use Rattle.code_cfi.proofs.ErrorLemmas.{on_any_error}
use Rattle.code_cfi.proofs.UniqueInstructions.{none_at}
use Rattle.code_cfi.proofs.instruction.read_cfa.Goals as goal

pub returns-in_err-register-in-12-clause-none : goal.returns-in_err-register-in-12-clause-none
returns-in_err-register-in-12-clause-none c = on_any_error c.from_residual.result _ (λ known. none_at c.args.encoding.now c.args.bytes.now c.args.opcode 12 c.in-12.is c.in_err-register-in-12.ensures.none)

pub returns-in_err-register-in-13-clause-none : goal.returns-in_err-register-in-13-clause-none
returns-in_err-register-in-13-clause-none c = on_any_error c.from_residual-in_err-register-in-13.result _ (λ known. none_at c.args.encoding.now c.args.bytes.now c.args.opcode 13 c.in-13.is c.in_err-register-in-13.ensures.none)

pub returns-in_err-offset-in-14-clause-none : goal.returns-in_err-offset-in-14-clause-none
returns-in_err-offset-in-14-clause-none c = on_any_error c.from_residual-in_err-offset-in-14.result _ (λ known. none_at c.args.encoding.now c.args.bytes.now c.args.opcode 14 c.in-14.is c.in_err-offset-in-14.ensures.none)

pub returns-in_err-expression-in-15-clause-none : goal.returns-in_err-expression-in-15-clause-none
returns-in_err-expression-in-15-clause-none c = on_any_error c.from_residual-in_err-expression-in-15.result _ (λ known. none_at c.args.encoding.now c.args.bytes.now c.args.opcode 15 c.in-15.is c.in_err-expression-in-15.ensures.none)

pub returns-in_err-register-in-18-clause-none : goal.returns-in_err-register-in-18-clause-none
returns-in_err-register-in-18-clause-none c = on_any_error c.from_residual-in_err-register-in-18.result _ (λ known. none_at c.args.encoding.now c.args.bytes.now c.args.opcode 18 c.in-18.is c.in_err-register-in-18.ensures.none)

pub returns-in_err-offset-in-19-clause-none : goal.returns-in_err-offset-in-19-clause-none
returns-in_err-offset-in-19-clause-none c = on_any_error c.from_residual-in_err-offset-in-19.result _ (λ known. none_at c.args.encoding.now c.args.bytes.now c.args.opcode 19 c.in-19.is c.in_err-offset-in-19.ensures.none)
