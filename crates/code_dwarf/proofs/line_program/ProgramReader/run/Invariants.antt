use Rattle.std.proofs.Common.{◌≡◌, ◌-◌, List, length, drop}
use Rattle.code_dwarf.specs.steps.LineRows.{Progress, Reads, at_start, program_bytes}
use Rattle.code_dwarf.specs.steps.LineReaders.{Follows}
use Rattle.code_dwarf.specs.declared.line_instruction.LineInstruction.{LineInstruction}
use Rattle.code_dwarf.proofs.line_program.ProgramReader.run.Given as goal

-- the instructions so far lead to what the reader has read
abbrev pub invariant-instructions : goal.invariant-instructions
invariant-instructions l = record {
  whole : l.rest ≡ drop (length (program_bytes l.section l.header) - length l.rest) (program_bytes l.section l.header);
  run : Follows l.section l.header l.code l.fn.self at_start (program_bytes l.section l.header)
      → (p : Progress) × (is : List LineInstruction) × Reads l.section l.header (program_bytes l.section l.header) at_start is l.rest p × Follows l.section l.header l.code l.self p l.rest;
}

abbrev pub decreases-instructions : goal.decreases-instructions
decreases-instructions l = length l.rest
