use Rattle.code_cfi.proofs.ErrorLemmas.{on_any_error}
use Rattle.code_dwarf.proofs.LineInstructionLemmas.{no_contents, no_extended_opcode, no_extended_operands}
use Rattle.code_dwarf.proofs.line_instruction.read_extended.Goals as goal

pub returns-in_err-size-clause-none : goal.returns-in_err-size-clause-none
returns-in_err-size-clause-none c = on_any_error c.from_residual.result _ (λ i rest at. c.in_err-size.ensures.none at.size at.mid at.size_at)

pub returns-in_err-contents-clause-none : goal.returns-in_err-contents-clause-none
returns-in_err-contents-clause-none c =
    on_any_error c.from_residual-in_err-contents.result _
    (no_contents c.args.header.now c.args.bytes.now c.in_ok-size.size c.in_ok-size.after_size.now c.in_ok-size.ensures.found c.in_err-contents.ensures.none)

pub returns-in_err-opcode-clause-none : goal.returns-in_err-opcode-clause-none
returns-in_err-opcode-clause-none c =
    on_any_error c.from_residual-in_err-opcode.result _
    (no_extended_opcode c.args.header.now c.args.bytes.now c.in_ok-size.size c.in_ok-size.after_size.now c.in_ok-size.ensures.found c.in_ok-contents.contents.now c.in_ok-contents.rest.now c.in_ok-contents.ensures.found
    c.in_err-opcode.ensures.none)

pub returns-in_err-instruction-clause-none : goal.returns-in_err-instruction-clause-none
returns-in_err-instruction-clause-none c =
    on_any_error c.from_residual-in_err-instruction.result _
    (no_extended_operands c.args.header.now c.args.bytes.now c.in_ok-size.size c.in_ok-size.after_size.now c.in_ok-size.ensures.found c.in_ok-contents.contents.now c.in_ok-contents.rest.now c.in_ok-opcode.opcode
    c.in_ok-opcode.operands.now c.saturating_sub-end.result c.in_ok-contents.ensures.found c.in_ok-opcode.ensures.found c.saturating_sub-end.ensures c.in_err-instruction.ensures.none)
