-- Steps of private functions: the names that the section EVENT_DESC gives a pipe's attributes.
use Rattle.std.specs.Prelude.{◌≡◌, ℕ, List, map, Option, Result, Ok, Err, String, string_bytes}
use Rattle.std.specs.Option.{option_map}
use Rattle.std.specs.declared.alloc.Global.{Global}
use Rattle.perfdata_sections.specs.AttributeDescription.{name_in}
use Rattle.perfdata_sections.specs.declared.error.Error.{Error}
use Rattle.perfdata_sections.specs.declared.error.Error.TheVariants.{Memory}
use Rattle.perfdata_sections.specs.declared.feature_sections.AttributeDescription.{AttributeDescription}

-- The names of attributes, and the bytes of copied names.
abbrev pub names_in : List AttributeDescription → List (Option (List ℕ))
names_in ds = map name_in ds

abbrev pub name_bytes_of : List (Option (String Global)) → List (Option (List ℕ))
name_bytes_of names = map (λ name. option_map string_bytes name) names

-- Copies a name. The error is `Memory`.
abbrev pub CopiesName : Option (List ℕ) → Result (Option (String Global)) Error → Type 0
CopiesName name (Ok copy) = option_map string_bytes copy ≡ name
CopiesName name (Err e) = e ≡ Memory
