use Rattle.std.proofs.Common.{◌≡◌, ◌≤◌, List, length, true}
use Rattle.code_dwarf.specs.steps.LineRows.{Sequence, counts}
use Rattle.code_dwarf.specs.steps.LineReaders.{IsOf, IsBefore}
use Rattle.code_dwarf.specs.declared.ranges.AddressRange.{AddressRange}
use Rattle.code_dwarf.proofs.line_program.LineProgram.last_row.Given as goal

-- the row is one of the sequence, and not after the address
abbrev pub invariant-instructions : goal.invariant-instructions
invariant-instructions l = (code : List AddressRange) (s : Sequence) → counts code s ≡ true → IsOf l.section l.self.header s l.checkpoint → l.checkpoint.row.address ≤ l.address
    → IsBefore l.section l.self.header s l.rest l.registers l.row × (l.row.address ≤ l.address)

abbrev pub decreases-instructions : goal.decreases-instructions
decreases-instructions l = length l.rest
