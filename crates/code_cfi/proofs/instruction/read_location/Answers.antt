use Rattle.code_cfi.proofs.ErrorLemmas.{on_any_error}
use Rattle.code_cfi.proofs.UniqueInstructions.{none_at}
use Rattle.code_cfi.proofs.instruction.read_location.Goals as goal

pub returns-in_err-location-in-1-clause-none : goal.returns-in_err-location-in-1-clause-none
returns-in_err-location-in-1-clause-none c = on_any_error c.from_residual.result _ (λ known. none_at c.args.encoding.now c.args.bytes.now c.args.opcode 1 c.in-1.is c.in_err-location-in-1.ensures.none)

pub returns-in_err-delta-in-2-clause-none : goal.returns-in_err-delta-in-2-clause-none
returns-in_err-delta-in-2-clause-none c = on_any_error c.from_residual-in_err-delta-in-2.result _ (λ known. none_at c.args.encoding.now c.args.bytes.now c.args.opcode 2 c.in-2.is c.in_err-delta-in-2.ensures.none)

pub returns-in_err-delta-in-3-clause-none : goal.returns-in_err-delta-in-3-clause-none
returns-in_err-delta-in-3-clause-none c = on_any_error c.from_residual-in_err-delta-in-3.result _ (λ known. none_at c.args.encoding.now c.args.bytes.now c.args.opcode 3 c.in-3.is c.in_err-delta-in-3.ensures.none)

pub returns-in_err-delta-in-4-clause-none : goal.returns-in_err-delta-in-4-clause-none
returns-in_err-delta-in-4-clause-none c = on_any_error c.from_residual-in_err-delta-in-4.result _ (λ known. none_at c.args.encoding.now c.args.bytes.now c.args.opcode 4 c.in-4.is c.in_err-delta-in-4.ensures.none)
