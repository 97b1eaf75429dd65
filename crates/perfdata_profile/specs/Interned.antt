-- The contents of tables, and the numbers of ids.
use Rattle.std.specs.Prelude.{ℕ, List, map}
use Rattle.perfdata_profile.specs.declared.lines.Line.{Line}
use Rattle.perfdata_profile.specs.declared.lines.LineLists.{LineLists}
use Rattle.perfdata_profile.specs.declared.lines.LinesId.{LinesId}
use Rattle.perfdata_profile.specs.declared.locations.Location.{Location}
use Rattle.perfdata_profile.specs.declared.locations.LocationId.{LocationId}
use Rattle.perfdata_profile.specs.declared.locations.Locations.{Locations}
use Rattle.perfdata_profile.specs.declared.mappings.MappedRange.{MappedRange}
use Rattle.perfdata_profile.specs.declared.mappings.MappingId.{MappingId}
use Rattle.perfdata_profile.specs.declared.mappings.Mappings.{Mappings}
use Rattle.perfdata_profile.specs.declared.stacks.StackId.{StackId}
use Rattle.perfdata_profile.specs.declared.stacks.Stacks.{Stacks}

abbrev pub mapping_number : MappingId → ℕ
mapping_number id = id.0

abbrev pub lines_number : LinesId → ℕ
lines_number id = id.0

abbrev pub location_number : LocationId → ℕ
location_number id = id.0

abbrev pub stack_number : StackId → ℕ
stack_number id = id.0

-- The mappings, by id.
abbrev pub ranges_of : Mappings → List MappedRange
ranges_of mappings = mappings.ranges.keys

-- The lists of lines, by id.
abbrev pub line_lists_of : LineLists → List (List Line)
line_lists_of lines = map (λ list. list.items) lines.lists.keys

-- The locations, by id.
abbrev pub locations_of : Locations → List Location
locations_of locations = locations.locations.keys

-- The stacks, by id.
abbrev pub stacks_of : Stacks → List (List LocationId)
stacks_of stacks = map (λ stack. stack.items) stacks.stacks.keys
