use Rattle.code_cfi.proofs.ErrorLemmas.{on_any_error}
use Rattle.code_cfi.proofs.UniqueInstructions.{no_offset}
use Rattle.code_cfi.proofs.instruction.read_instruction.Goals as goal

pub returns-in_err-offset-in-2-clause-none : goal.returns-in_err-offset-in-2-clause-none
returns-in_err-offset-in-2-clause-none c =
    on_any_error c.from_residual-in_err-offset-in-2.result _
    (no_offset c.args.encoding.now c.args.bytes.now c.in_ok-opcode.opcode c.in_ok-opcode.rest.now c.in_ok-opcode.ensures.found c.in-2.is c.in_err-offset-in-2.ensures.none)
