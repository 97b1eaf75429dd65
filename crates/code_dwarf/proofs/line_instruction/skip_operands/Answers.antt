use Rattle.std.proofs.Common.{◌+◌, arith}
use Rattle.code_cfi.proofs.ErrorLemmas.{on_any_error}
use Rattle.code_dwarf.proofs.LineInstructionLemmas.{no_operands, operands_more}
use Rattle.code_dwarf.proofs.line_instruction.skip_operands.Goals as goal

pub operands-preserved : goal.operands-preserved
operands-preserved c =
    let shorter = c.in_ok-after.ensures.shorter in
    record {
      at = operands_more c.operands._index (c.operands._index + 1) c.args.bytes.now c.operands.rest.now c.in_ok-after.after.now c.in_ok-after.field-0-0 (omega arith) c.operands.invariant.at c.in_ok-after.ensures.found;
      within = omega (arith, shorter, c.operands.invariant.within);
    }

pub returns-in_err-after-clause-none : goal.returns-in_err-after-clause-none
returns-in_err-after-clause-none c =
    on_any_error c.from_residual.result _ (no_operands c.operands._index c.args.count c.args.bytes.now c.operands.rest.now (omega (arith, c.operands-test.true)) c.operands.invariant.at c.in_err-after.ensures.none)
