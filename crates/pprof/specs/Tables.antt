-- The tables of a builder, and those of its profile.
use Rattle.std.specs.Prelude.{◌≡◌, ℕ, ◌-◌, ◌==◌, ◌&&◌, nat_lt, not, Bool, if◌then◌else◌, List, [], ◌∷◌, length, map, slice_index_or, true}
use Rattle.std.specs.List.{list_any}
use Rattle.pprof.specs.Messages.{LocationValue, ProfileValue}
use Rattle.pprof.specs.Rows.{numbered}
use Rattle.pprof.specs.Samples.{Row, sample_row}
use Rattle.pprof.specs.Texts.{AreStrings}
use Rattle.pprof.specs.declared.builder.FunctionNames.{FunctionNames}
use Rattle.pprof.specs.declared.builder.MappedFile.{MappedFile}
use Rattle.pprof.specs.declared.builder.Summary.{Summary}
use Rattle.pprof.specs.declared.profile.Function.{Function}
use Rattle.pprof.specs.declared.profile.Line.{Line}
use Rattle.pprof.specs.declared.profile.Mapping.{Mapping}
use Rattle.pprof.specs.declared.profile.ValueType.{ValueType}

-- Where a frame of a stack is: the mapping, the address and the functions there, the innermost first.
pub record Place : Type 0 where
  pub mapping_id : ℕ
  pub address : ℕ
  pub lines : List Line

-- The rows of a builder, in the order in which they were added.
pub record Tables : Type 0 where
  pub strings : List (List ℕ)
  pub types : List ValueType
  pub mappings : List MappedFile
  pub functions : List FunctionNames
  pub locations : List Place
  pub samples : List Row

-- The only text is the empty one, and there are no rows.
abbrev pub no_rows : Tables
no_rows = record { strings = [] ∷ []; types = []; mappings = []; functions = []; locations = []; samples = [] }

-- Whether a line has a function with a source file, and whether it has a number.
abbrev pub no_names : FunctionNames
no_names = record { name = 0; system_name = 0; filename = 0 }

abbrev pub has_filename : List FunctionNames → Line → Bool
has_filename functions line = not (line.function_id == 0) && not ((slice_index_or functions (line.function_id - 1) no_names).filename == 0)

abbrev pub has_number : Line → Bool
has_number line = not (line.line == 0)

-- Whether lines have those of inlined functions.
abbrev pub has_inlined : List Line → Bool
has_inlined lines = nat_lt 1 (length lines)

-- Whether the lines of a location in the mapping with an id pass a test.
abbrev pub any_in : (List Line → Bool) → ℕ → List Place → Bool
any_in test id places = list_any (λ (place : Place). (place.mapping_id == id) && test place.lines) places

-- The messages of rows with an id.
abbrev pub mapping_row : List FunctionNames → List Place → ℕ → MappedFile → Mapping
mapping_row functions places id file = record {
  id = id;
  memory_start = file.memory_start;
  memory_limit = file.memory_limit;
  file_offset = file.file_offset;
  filename = file.filename;
  build_id = file.build_id;
  has_functions = true;
  has_filenames = any_in (list_any (has_filename functions)) id places;
  has_line_numbers = any_in (list_any has_number) id places;
  has_inline_frames = any_in has_inlined id places;
}

abbrev pub function_row : ℕ → FunctionNames → Function
function_row id names = record { id = id; name = names.name; system_name = names.system_name; filename = names.filename }

-- An id, or 0 if none of some rows has it.
abbrev pub known_id : (count id : ℕ) → ℕ
known_id count id = if nat_lt count id then 0 else id

abbrev pub known_line : ℕ → Line → Line
known_line function_count line = record { function_id = known_id function_count line.function_id; line = line.line }

abbrev pub location_row : (mapping_count function_count : ℕ) → ℕ → Place → LocationValue
location_row mapping_count function_count id place = record {
  id = id;
  mapping_id = known_id mapping_count place.mapping_id;
  address = place.address;
  lines = map (known_line function_count) place.lines;
}

-- A profile has the rows of tables, in their order, and what a summary says. Ids count from 1.
pub record Builds (tables : Tables) (summary : Summary) (profile : ProfileValue) : Type 0 where
  pub sample_types : profile.sample_types ≡ tables.types
  pub mappings : profile.mappings ≡ numbered (mapping_row tables.functions tables.locations) 1 tables.mappings
  pub functions : profile.functions ≡ numbered function_row 1 tables.functions
  pub locations : profile.locations ≡ numbered (location_row (length tables.mappings) (length tables.functions)) 1 tables.locations
  pub samples : profile.samples ≡ map (sample_row (length tables.types)) tables.samples
  pub strings : profile.strings ≡ tables.strings
  pub once : AreStrings profile.strings
  pub duration : profile.duration ≡ summary.duration
  pub period_type : profile.period_type ≡ summary.period_type
  pub period : profile.period ≡ summary.period
  pub comment : profile.comment ≡ summary.comment
  pub default_sample_type : profile.default_sample_type ≡ summary.default_sample_type
