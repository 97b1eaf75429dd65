use Rattle.code_cfi.proofs.ErrorLemmas.{on_any_error}
use Rattle.code_dwarf.proofs.LineInstructionLemmas.{no_standard}
use Rattle.code_dwarf.proofs.line_instruction.read_standard.Goals as goal

pub returns-in_err-advance-in-2-clause-none : goal.returns-in_err-advance-in-2-clause-none
returns-in_err-advance-in-2-clause-none c = on_any_error c.from_residual.result _ (λ low high. no_standard c.args.header.now c.args.bytes.now c.args.opcode 2 c.in-2.is c.in_err-advance-in-2.ensures.none)

pub returns-in_err-advance-in-3-clause-none : goal.returns-in_err-advance-in-3-clause-none
returns-in_err-advance-in-3-clause-none c =
    on_any_error c.from_residual-in_err-advance-in-3.result _ (λ low high. no_standard c.args.header.now c.args.bytes.now c.args.opcode 3 c.in-3.is c.in_err-advance-in-3.ensures.none)

pub returns-in_err-file-in-4-clause-none : goal.returns-in_err-file-in-4-clause-none
returns-in_err-file-in-4-clause-none c =
    on_any_error c.from_residual-in_err-file-in-4.result _ (λ low high. no_standard c.args.header.now c.args.bytes.now c.args.opcode 4 c.in-4.is c.in_err-file-in-4.ensures.none)

pub returns-in_err-column-in-5-clause-none : goal.returns-in_err-column-in-5-clause-none
returns-in_err-column-in-5-clause-none c =
    on_any_error c.from_residual-in_err-column-in-5.result _ (λ low high. no_standard c.args.header.now c.args.bytes.now c.args.opcode 5 c.in-5.is c.in_err-column-in-5.ensures.none)

pub returns-in_err-rest-in-12-clause-none : goal.returns-in_err-rest-in-12-clause-none
returns-in_err-rest-in-12-clause-none c =
    on_any_error c.from_residual-in_err-rest-in-12.result _ (λ low high. no_standard c.args.header.now c.args.bytes.now c.args.opcode 12 c.in-12.is c.in_err-rest-in-12.ensures.none)
