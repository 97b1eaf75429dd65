use Rattle.std.proofs.Common.{◌≤◌, length}
use Rattle.code_cfi.specs.Rows.{Moment, Runs}
use Rattle.code_cfi.specs.Remembering.{Remembers}
use Rattle.code_cfi.specs.steps.Rows.{moment_of}
use Rattle.code_cfi.proofs.row_program.run.Given as goal

-- what the instructions that are left lead to, all instructions lead to, and the other way round
abbrev pub invariant-instructions : goal.invariant-instructions
invariant-instructions l = record {
  within : length l.rest ≤ length l.program;
  leads : (n : Moment) → Runs l.encoding l.cie l.initial' l.address l.rest (moment_of l.state) n → Runs l.encoding l.cie l.initial' l.address l.program (moment_of l.fn.state) n;
  follows : (n : Moment) → Runs l.encoding l.cie l.initial' l.address l.program (moment_of l.fn.state) n → Runs l.encoding l.cie l.initial' l.address l.rest (moment_of l.state) n;
  remembers : Remembers l.encoding l.rest → Remembers l.encoding l.program;
}

abbrev pub decreases-instructions : goal.decreases-instructions
decreases-instructions l = length l.rest
