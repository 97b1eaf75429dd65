-- Steps of private functions: the functions of stacks by their ids.
use Rattle.std.specs.Prelude.{◌≡◌, ℕ, List, [], map, Option, None, Some, slice_get, slice_index_or}
use Rattle.std.specs.List.{flat_map}
use Rattle.perfdata_profile.specs.Interned.{lines_number, location_number}
use Rattle.perfdata_profile.specs.Values.{IsName, Lists}
use Rattle.perfdata_profile.specs.declared.lines.Line.{Line}
use Rattle.perfdata_profile.specs.declared.locations.Location.{Location}
use Rattle.perfdata_profile.specs.declared.locations.LocationId.{LocationId}
use Rattle.perfdata_profile.specs.declared.names.NameId.{NameId}

-- All ids are those of names.
abbrev pub AreNames : Lists → List NameId → Type 0
AreNames lists ids = (index : ℕ) (id : NameId) → slice_get ids index ≡ Some id → IsName lists id

abbrev pub line_functions : List Line → List NameId
line_functions lines = map (λ (line : Line). line.function) lines

-- The functions at a location, the innermost first, or none if there is no such location.
abbrev pub functions_in : Lists → Option Location → List NameId
functions_in lists None = []
functions_in lists (Some location) = slice_index_or (map line_functions lists.lines) (lines_number location.lines) []

abbrev pub location_functions : Lists → LocationId → List NameId
location_functions lists id = functions_in lists (slice_get lists.locations (location_number id))

-- The functions of a stack, the leaf's first.
abbrev pub stack_functions : Lists → List LocationId → List NameId
stack_functions lists ids = flat_map (location_functions lists) ids
