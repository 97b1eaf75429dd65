-- Steps of private functions: the names of threads.
use Rattle.std.specs.Prelude.{Result, Ok, Err}
use Rattle.std.specs.declared.alloc.AllocError.{AllocError}
use Rattle.perfdata_spaces.specs.Effects.{NameEffect}
use Rattle.perfdata_spaces.specs.declared.thread_names.ThreadNames.{ThreadNames}
use Rattle.perfdata_spaces.specs.ThreadNames.{KeepsNames, AppliesName}

abbrev pub ChangesNames : NameEffect → ThreadNames → Result (Unit {0}) AllocError → ThreadNames → Type 0
ChangesNames effect old (Ok done) new = AppliesName effect old new
ChangesNames effect old (Err error) new = KeepsNames old new
