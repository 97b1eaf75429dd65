-- Steps of private functions: the contents of an `AttributeDescription`.
use Rattle.std.specs.Prelude.{◌≡◌, ℕ, List, Option, Result, Ok, Err, String, string_bytes}
use Rattle.std.specs.Option.{option_map}
use Rattle.std.specs.declared.alloc.Global.{Global}
use Rattle.perfdata_sections.specs.declared.error.Error.{Error}
use Rattle.perfdata_sections.specs.declared.error.Error.TheVariants.{Memory}

-- What cloning a name does.
abbrev pub CopiesName : Option (List ℕ) → Result (Option (String Global)) Error → Type 0
CopiesName name (Ok copy) = option_map string_bytes copy ≡ name
CopiesName name (Err e) = e ≡ Memory
