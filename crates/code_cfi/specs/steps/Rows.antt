-- Steps of private functions: rows: what the instructions do to them (DWARF 5, section 6.4.2), and the row at an address (section 6.4.3).
use Rattle.std.specs.Prelude.{ℕ, ◌-◌, List, Option}
use Rattle.code_cfi.specs.declared.instruction.Encoding.{Encoding}
use Rattle.code_cfi.specs.declared.instruction.Instruction.{Instruction}
use Rattle.code_cfi.specs.declared.instruction.Instruction.TheVariants as instructions
use Rattle.code_cfi.specs.declared.row.Row.{Row}
use Rattle.code_cfi.specs.declared.cie.Cie.{Cie}
use Rattle.code_cfi.specs.declared.row_program.RowState.{RowState}
use Rattle.code_cfi.specs.Rows.{Moment, Steps, Runs}

abbrev pub moment_of : RowState → Moment
moment_of s = record { location = s.location; row = s.row; remembered = s.remembered.items }

-- there is nothing that the instruction does, and there are no such instructions
abbrev pub NoStep : Cie → Option Row → Instruction → Moment → Type 0
NoStep f initial i m = (n : Moment) → Steps f initial i m n → ⊥

abbrev pub NoRun : Encoding → Cie → Option Row → ℕ → List ℕ → Moment → Type 0
NoRun e f initial address bytes m = (n : Moment) → Runs e f initial address bytes m n → ⊥
