use Rattle.code_cfi.proofs.ErrorLemmas.{on_any_error}
use Rattle.code_cfi.proofs.UniqueInstructions.{none_at}
use Rattle.code_cfi.proofs.instruction.read_rule.Goals as goal

pub returns-in_err-register-in-5-clause-none : goal.returns-in_err-register-in-5-clause-none
returns-in_err-register-in-5-clause-none c = on_any_error c.from_residual.result _ (λ known. none_at c.args.encoding.now c.args.bytes.now c.args.opcode 5 c.in-5.is c.in_err-register-in-5.ensures.none)

pub returns-in_err-register-in-7-clause-none : goal.returns-in_err-register-in-7-clause-none
returns-in_err-register-in-7-clause-none c = on_any_error c.from_residual-in_err-register-in-7.result _ (λ known. none_at c.args.encoding.now c.args.bytes.now c.args.opcode 7 c.in-7.is c.in_err-register-in-7.ensures.none)

pub returns-in_err-register-in-8-clause-none : goal.returns-in_err-register-in-8-clause-none
returns-in_err-register-in-8-clause-none c = on_any_error c.from_residual-in_err-register-in-8.result _ (λ known. none_at c.args.encoding.now c.args.bytes.now c.args.opcode 8 c.in-8.is c.in_err-register-in-8.ensures.none)

pub returns-in_err-register-in-9-clause-none : goal.returns-in_err-register-in-9-clause-none
returns-in_err-register-in-9-clause-none c = on_any_error c.from_residual-in_err-register-in-9.result _ (λ known. none_at c.args.encoding.now c.args.bytes.now c.args.opcode 9 c.in-9.is c.in_err-register-in-9.ensures.none)

pub returns-in_err-register-in-16-clause-none : goal.returns-in_err-register-in-16-clause-none
returns-in_err-register-in-16-clause-none c = on_any_error c.from_residual-in_err-register-in-16.result _ (λ known. none_at c.args.encoding.now c.args.bytes.now c.args.opcode 16 c.in-16.is c.in_err-register-in-16.ensures.none)

pub returns-in_err-register-in-17-clause-none : goal.returns-in_err-register-in-17-clause-none
returns-in_err-register-in-17-clause-none c = on_any_error c.from_residual-in_err-register-in-17.result _ (λ known. none_at c.args.encoding.now c.args.bytes.now c.args.opcode 17 c.in-17.is c.in_err-register-in-17.ensures.none)

pub returns-in_err-register-in-47-clause-none : goal.returns-in_err-register-in-47-clause-none
returns-in_err-register-in-47-clause-none c = on_any_error c.from_residual-in_err-register-in-47.result _ (λ known. none_at c.args.encoding.now c.args.bytes.now c.args.opcode 47 c.in-47.is c.in_err-register-in-47.ensures.none)
