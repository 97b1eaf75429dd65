use Rattle.std.proofs.Common.{◌≤◌, length}
use Rattle.code_dwarf.specs.steps.LineInstructions.{OperandsAt}
use Rattle.code_dwarf.proofs.line_instruction.skip_operands.Given as goal

abbrev pub invariant-operands : goal.invariant-operands
invariant-operands l = record {
  at : OperandsAt l._index l.bytes l.rest;
  within : length l.rest ≤ length l.bytes;
}
