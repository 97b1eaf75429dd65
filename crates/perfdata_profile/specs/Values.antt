-- What the ids of a profile stand for.
use Rattle.std.specs.Prelude.{◌≡◌, ℕ, ℤ, ◌≤◌, ◌<◌, List, [], length, map, slice_get, slice_index_or, Option, None, Some}
use Rattle.std.specs.Option.{option_map}
use Rattle.perfdata_profile.specs.Interning.{IsOnce}
use Rattle.perfdata_profile.specs.Names.{names_of, number_of}
use Rattle.perfdata_profile.specs.Interned.{line_lists_of, lines_number, location_number, locations_of, mapping_number, ranges_of, stack_number, stacks_of}
use Rattle.perfdata_profile.specs.declared.lines.Line.{Line}
use Rattle.perfdata_profile.specs.declared.lines.LineLists.{LineLists}
use Rattle.perfdata_profile.specs.declared.lines.LinesId.{LinesId}
use Rattle.perfdata_profile.specs.declared.locations.Location.{Location}
use Rattle.perfdata_profile.specs.declared.locations.LocationId.{LocationId}
use Rattle.perfdata_profile.specs.declared.locations.Locations.{Locations}
use Rattle.perfdata_profile.specs.declared.mappings.MappedRange.{MappedRange}
use Rattle.perfdata_profile.specs.declared.mappings.MappingId.{MappingId}
use Rattle.perfdata_profile.specs.declared.mappings.Mappings.{Mappings}
use Rattle.perfdata_profile.specs.declared.names.NameId.{NameId}
use Rattle.perfdata_profile.specs.declared.names.Names.{Names}
use Rattle.perfdata_profile.specs.declared.stacks.StackId.{StackId}
use Rattle.perfdata_profile.specs.declared.stacks.Stacks.{Stacks}
use Rattle.perfdata_profile.specs.declared.sums.SampleKey.{SampleKey}
use Rattle.perfdata_profile.specs.declared.sums.Thread.{Thread}

-- The contents of the tables of a profile, by id.
pub record Lists : Type 0 where
  pub names : List (List ℕ)
  pub ranges : List MappedRange
  pub lines : List (List Line)
  pub locations : List Location
  pub stacks : List (List LocationId)

abbrev pub lists_in : Names → Mappings → LineLists → Locations → Stacks → Lists
lists_in names mappings lines locations stacks = record {
  names = names_of names;
  ranges = ranges_of mappings;
  lines = line_lists_of lines;
  locations = locations_of locations;
  stacks = stacks_of stacks;
}

-- A range of addresses to which a part of a file is mapped.
pub record RangeValue : Type 0 where
  pub start : ℕ
  pub end : ℕ
  pub page_offset : ℕ
  pub path : List ℕ
  pub build_id : List ℕ

-- A function at an address, with the path of the source file and the line there. They are empty and 0 if they aren't known.
pub record LineValue : Type 0 where
  pub function : List ℕ
  pub file : List ℕ
  pub line : ℕ

-- A location. The functions at its address are those of its lines, the innermost first: all but the last one are inlined into the next one.
pub record LocationValue : Type 0 where
  pub mapping : Option RangeValue
  pub address : ℕ
  pub lines : List LineValue

-- The name of a thread, and the ids by which threads are distinguished.
pub record ThreadKey : Type 0 where
  pub name : List ℕ
  pub pid : Option ℤ
  pub tid : Option ℤ

-- What the sums of samples are kept apart by. The leaf's location is the first one of the stack.
pub record SampleValue : Type 0 where
  pub thread : ThreadKey
  pub stack : List LocationValue
  pub column : ℕ

abbrev pub no_range : RangeValue
no_range = record { start = 0; end = 0; page_offset = 0; path = []; build_id = [] }

abbrev pub no_location : LocationValue
no_location = record { mapping = None; address = 0; lines = [] }

-- The functions and files of lines have names.
module _ (names : List (List ℕ)) where
  abbrev pub HasNames : Line → Type 0
  HasNames line = (number_of line.function < length names) × (number_of line.file < length names)

  abbrev pub AreNamedIn : List Line → Type 0
  AreNamedIn lines = (index : ℕ) (line : Line) → slice_get lines index ≡ Some line → HasNames line

-- The ids refer to entries of the tables, and the mapping of a location contains its address.
module _ (lists : Lists) where
  abbrev pub IsName : NameId → Type 0
  IsName id = number_of id < length lists.names

  abbrev pub IsMapping : MappingId → Type 0
  IsMapping id = mapping_number id < length lists.ranges

  abbrev pub IsLines : LinesId → Type 0
  IsLines id = lines_number id < length lists.lines

  abbrev pub IsLocation : LocationId → Type 0
  IsLocation id = location_number id < length lists.locations

  abbrev pub IsStack : StackId → Type 0
  IsStack id = stack_number id < length lists.stacks

  abbrev pub HasFile : MappedRange → Type 0
  HasFile range = IsName range.path × IsName range.build_id

  -- An address is in the range of a mapping.
  abbrev pub IsInMapping : MappingId → ℕ → Type 0
  IsInMapping id address = (range : MappedRange) → slice_get lists.ranges (mapping_number id) ≡ Some range
      → (range.start ≤ address) × (address < range.end)

  abbrev pub IsPlaced : Option MappingId → ℕ → Type 0
  IsPlaced mapping address = (id : MappingId) → mapping ≡ Some id → IsMapping id × IsInMapping id address

  abbrev pub AreNamed : List Line → Type 0
  AreNamed lines = AreNamedIn lists.names lines

  abbrev pub HasParts : Location → Type 0
  HasParts location = IsLines location.lines × IsPlaced location.mapping location.address

  abbrev pub AreLocations : List LocationId → Type 0
  AreLocations ids = (index : ℕ) (id : LocationId) → slice_get ids index ≡ Some id → IsLocation id

  pub record AreWithin : Type 0 where
    pub ranges : (index : ℕ) (range : MappedRange) → slice_get lists.ranges index ≡ Some range → HasFile range
    pub lines : (index : ℕ) (list : List Line) → slice_get lists.lines index ≡ Some list → AreNamed list
    pub locations : (index : ℕ) (location : Location) → slice_get lists.locations index ≡ Some location → HasParts location
    pub stacks : (index : ℕ) (stack : List LocationId) → slice_get lists.stacks index ≡ Some stack → AreLocations stack

  abbrev pub IsKey : SampleKey → Type 0
  IsKey key = IsName key.thread.name × IsStack key.stack

-- The values of ids of names.
module _ (names : List (List ℕ)) where
  abbrev pub name_in : NameId → List ℕ
  name_in id = slice_index_or names (number_of id) []

  abbrev pub line_in : Line → LineValue
  line_in line = record { function = name_in line.function; file = name_in line.file; line = line.line }

-- The values of ids.
module _ (lists : Lists) where
  abbrev pub name_at : NameId → List ℕ
  name_at id = name_in lists.names id

  abbrev pub range_value : MappedRange → RangeValue
  range_value range = record {
    start = range.start;
    end = range.end;
    page_offset = range.page_offset;
    path = name_at range.path;
    build_id = name_at range.build_id;
  }

  abbrev pub range_at : MappingId → RangeValue
  range_at id = slice_index_or (map range_value lists.ranges) (mapping_number id) no_range

  abbrev pub lines_value : List Line → List LineValue
  lines_value lines = map (line_in lists.names) lines

  abbrev pub lines_at : LinesId → List LineValue
  lines_at id = slice_index_or (map lines_value lists.lines) (lines_number id) []

  abbrev pub location_value : Location → LocationValue
  location_value location = record { mapping = option_map range_at location.mapping; address = location.address; lines = lines_at location.lines }

  abbrev pub location_at : LocationId → LocationValue
  location_at id = slice_index_or (map location_value lists.locations) (location_number id) no_location

  abbrev pub stack_at : StackId → List LocationValue
  stack_at id = slice_index_or (map (map location_at) lists.stacks) (stack_number id) []

  abbrev pub thread_key : Thread → ThreadKey
  thread_key thread = record { name = name_at thread.name; pid = thread.pid; tid = thread.tid }

  abbrev pub sample_value : SampleKey → SampleValue
  sample_value key = record { thread = thread_key key.thread; stack = stack_at key.stack; column = key.column }

-- Each name, mapping, list of lines, location and stack has one id.
pub record AreOnce (lists : Lists) : Type 0 where
  pub names : IsOnce lists.names
  pub ranges : IsOnce lists.ranges
  pub lines : IsOnce lists.lines
  pub locations : IsOnce lists.locations
  pub stacks : IsOnce lists.stacks
