-- The program that a recorded command executed.
use Rattle.std.specs.Prelude.{ℕ, List, Option}
use Rattle.std.specs.Option.{option_map}
use Rattle.perfdata_overview.specs.declared.program.ExecutedProgram.{ExecutedProgram}

-- The name of the thread that executed it.
abbrev pub name_of : ExecutedProgram → Option (List ℕ)
name_of program = option_map (λ executed. executed.1.items) program.executed
