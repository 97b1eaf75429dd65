-- The samples of a profile for pprof by values: the texts, addresses and numbers that the ids of their locations and labels stand for.
use Rattle.std.specs.Prelude.{◌≡◌, ℕ, ℤ, ◌+◌, ◌-◌, ◌<◌, ◌==◌, List, [], ◌∷◌, ◌++◌, codes, if◌then◌else◌, length, map, slice_get, slice_index_or, Option, None, Some}
use Rattle.std.specs.Int.{cast_unsigned, w64}
use Rattle.std.specs.Option.{option_map}
use Rattle.std.specs.Str.Lossy.{utf8_lossy}
use Rattle.hex.specs.Hex.{encode_lower}
use Rattle.perfdata_profile.specs.Samples.{AreRelated}
use Rattle.perfdata_profile.specs.Tallies.{Counted, IsSumOf}
use Rattle.perfdata_profile.specs.Values.{LineValue, LocationValue, RangeValue, SampleValue, ThreadKey}
use Rattle.perfdata_views.specs.declared.pprof_profile.Column.{Column}
use Rattle.pprof.specs.Labels.{comm_key, pid_key, tid_key}
use Rattle.pprof.specs.Messages.{ProfileValue, SampleValue as SampleMessage}
use Rattle.pprof.specs.Tables.{Builds, Place, Tables}
use Rattle.pprof.specs.declared.builder.FunctionNames.{FunctionNames}
use Rattle.pprof.specs.declared.builder.MappedFile.{MappedFile}
use Rattle.pprof.specs.declared.builder.Summary.{Summary}
use Rattle.pprof.specs.declared.profile.Label.{Label}
use Rattle.pprof.specs.declared.profile.Line.{Line}
use Rattle.pprof.specs.declared.profile.ValueType.{ValueType}

-- A name, or "[unknown]" if it is empty.
abbrev pub or_unknown : List ℕ → List ℕ
or_unknown [] = codes "[unknown]"
or_unknown (byte ∷ bytes) = byte ∷ bytes

-- A name as a text of pprof: bytes that aren't UTF-8 become U+FFFD.
abbrev pub shown_name : List ℕ → List ℕ
shown_name name = utf8_lossy (or_unknown name)

-- A range with the texts of its file: the path, and the build id in hexadecimal digits.
abbrev pub shown_range : RangeValue → RangeValue
shown_range range = record {
  start = range.start;
  end = range.end;
  page_offset = range.page_offset;
  path = shown_name range.path;
  build_id = utf8_lossy (encode_lower range.build_id);
}

-- A line with the texts of its function and of its source file. The path of a file that isn't known is empty.
abbrev pub shown_line : LineValue → LineValue
shown_line line = record { function = shown_name line.function; file = utf8_lossy line.file; line = line.line }

-- A location with the lines at its address, the innermost function's first.
abbrev pub shown_location : LocationValue → LocationValue
shown_location location = record {
  mapping = option_map shown_range location.mapping;
  address = location.address;
  lines = map shown_line location.lines;
}

abbrev pub no_frames_line : LineValue
no_frames_line = record { function = utf8_lossy (codes "[no frames]"); file = []; line = 0 }

-- The location of samples without frames.
abbrev pub no_frames : LocationValue
no_frames = record { mapping = None; address = 0; lines = no_frames_line ∷ [] }

-- The locations of a stack, the leaf's first.
abbrev pub shown_stack : List LocationValue → List LocationValue
shown_stack [] = no_frames ∷ []
shown_stack (location ∷ stack) = map shown_location (location ∷ stack)

pub record LabelValue : Type 0 where
  pub key : List ℕ
  pub text : List ℕ
  pub number : ℕ

-- A label with a number in two's complement, if there is one.
abbrev pub id_labels : List ℕ → Option ℤ → List LabelValue
id_labels key None = []
id_labels key (Some number) = record { key = key; text = []; number = cast_unsigned w64 number } ∷ []

-- The labels of a thread: its name, and the ids by which threads are distinguished.
abbrev pub shown_thread : ThreadKey → List LabelValue
shown_thread thread =
    record { key = comm_key; text = shown_name thread.name; number = 0 } ∷ (id_labels pid_key thread.pid ++ id_labels tid_key thread.tid)

-- What samples for pprof are kept apart by. Events aren't: each has a value of its own.
pub record ShownSample : Type 0 where
  pub locations : List LocationValue
  pub labels : List LabelValue

abbrev pub shown_sample : SampleValue → ShownSample
shown_sample sample = record { locations = shown_stack sample.stack; labels = shown_thread sample.thread }

-- A row has an id. Ids count from 1.
abbrev pub HasId : {A : Type 0} → List A → ℕ → A → Type 0
HasId rows id row = (0 < id) × (slice_get rows (id - 1) ≡ Some row)

-- What ids and indices stand for in the tables of a profile.
module _ (tables : Tables) where
  abbrev pub IsText : ℕ → List ℕ → Type 0
  IsText index text = slice_get tables.strings index ≡ Some text

  pub record IsFile (id : ℕ) (range : RangeValue) : Type 0 where
    pub file : MappedFile
    pub has_id : HasId tables.mappings id file
    pub start : file.memory_start ≡ range.start
    pub end : file.memory_limit ≡ range.end
    pub page_offset : file.file_offset ≡ range.page_offset
    pub path : IsText file.filename range.path
    pub build_id : IsText file.build_id range.build_id

  -- The file of a location, or 0.
  abbrev pub IsFileOf : ℕ → Option RangeValue → Type 0
  IsFileOf id None = id ≡ 0
  IsFileOf id (Some range) = IsFile id range

  pub record IsFunction (id : ℕ) (name file : List ℕ) : Type 0 where
    pub names : FunctionNames
    pub has_id : HasId tables.functions id names
    pub name_is : IsText names.name name
    pub system_name : names.system_name ≡ names.name
    pub file_is : IsText names.filename file

  pub record IsLine (line : Line) (value : LineValue) : Type 0 where
    pub function : IsFunction line.function_id value.function value.file
    pub number : line.line ≡ value.line

  -- The lines of a location are in order.
  pub record IsLocation (id : ℕ) (location : LocationValue) : Type 0 where
    pub row : Place
    pub has_id : HasId tables.locations id row
    pub address : row.address ≡ location.address
    pub file : IsFileOf row.mapping_id location.mapping
    pub lines_are : AreRelated IsLine row.lines location.lines

  pub record IsLabel (label : Label) (value : LabelValue) : Type 0 where
    pub key : IsText label.key value.key
    pub text : IsText label.text value.text
    pub number : label.number ≡ value.number

  -- The locations and labels of a sample, in order.
  pub record IsShown (location_ids : List ℕ) (labels : List Label) (shown : ShownSample) : Type 0 where
    pub locations : AreRelated IsLocation location_ids shown.locations
    pub labels_are : AreRelated IsLabel labels shown.labels

  -- The values with an index have a name and a unit.
  pub record IsType (index : ℕ) (name unit : List ℕ) : Type 0 where
    pub value_type : ValueType
    pub is_at : slice_get tables.types index ≡ Some value_type
    pub name_is : IsText value_type.kind (utf8_lossy name)
    pub unit_is : IsText value_type.unit (utf8_lossy unit)

-- What is added to the value with an index: a number of samples to the first one, their weight to that of their column.
abbrev pub added_to : (index column samples weight : ℕ) → ℕ
added_to index column samples weight = (if index == 0 then samples else 0) + (if index == column then weight else 0)

-- What is counted: each with its thread, stack and column, its number of samples and its weight.
module _ {A : Type 0} (key : A → SampleValue) (samples weight : A → ℕ) where
  -- The columns have the indices of values with the name and the unit of the column.
  pub record AreColumns (tables : Tables) (described : List Column) (counted : List A) (columns : List ℕ) : Type 0 where
    pub first : IsType tables 0 (codes "samples") (codes "count")
    pub number : length columns ≡ length described
    pub each : (index : ℕ) (one : A) (column : Column) → slice_get counted index ≡ Some one
        → slice_get described (key one).column ≡ Some column
        → ((at : ℕ) × (slice_get columns (key one).column ≡ Some at) × IsType tables at column.name.items column.unit.now)

  module _ (columns : List ℕ) where
    -- What is counted in a sample: its column is described, and its locations and labels are those of the sample.
    abbrev pub IsIn : ShownSample → A → Type 0
    IsIn shown one = ((key one).column < length columns) × (shown_sample (key one) ≡ shown)

    abbrev pub added_by : (index : ℕ) → A → ℕ
    added_by index one = added_to index (slice_index_or columns (key one).column 0) (samples one) (weight one)

    -- The values of a sample are the sums of what is counted in it.
    abbrev pub AreSums : List A → ShownSample → (values : List ℕ) → Type 0
    AreSums counted shown values =
        (index value : ℕ) → slice_get values index ≡ Some value → IsSumOf (IsIn shown) (added_by index) counted value

    -- The locations and labels of a sample are those of something that is counted, and its values are the sums of what has these.
    pub record IsSampleOf (tables : Tables) (counted : List A) (location_ids : List ℕ) (labels : List Label) (values : List ℕ) : Type 0 where
      pub shown : ShownSample
      pub is_shown : IsShown tables location_ids labels shown
      pub is_own : ((index : ℕ) × (one : A) × (slice_get counted index ≡ Some one) × IsIn shown one)
      pub number : length values ≡ length tables.types
      pub sums : AreSums counted shown values

  -- A profile for pprof has exactly one sample for all that is counted with the same locations and labels, and no other sample.
  pub record CountsSamples (described : List Column) (counted : List A) (profile : ProfileValue) : Type 0 where
    pub tables : Tables
    pub summary : Summary
    pub builds : Builds tables summary profile
    pub columns : List ℕ
    pub are_columns : AreColumns tables described counted columns
    pub each : (at : ℕ) (sample : SampleMessage) → slice_get profile.samples at ≡ Some sample
        → IsSampleOf columns tables counted sample.location_ids sample.labels sample.values
    pub all : (index : ℕ) (one : A) → slice_get counted index ≡ Some one → (key one).column < length described
        → ((at : ℕ) × (sample : SampleMessage) × (slice_get profile.samples at ≡ Some sample)
        × IsShown tables sample.location_ids sample.labels (shown_sample (key one)))
    pub once : (first second : ℕ) (sample other : SampleMessage) (shown : ShownSample) → slice_get profile.samples first ≡ Some sample
        → slice_get profile.samples second ≡ Some other → IsShown tables sample.location_ids sample.labels shown
        → IsShown tables other.location_ids other.labels shown → first ≡ second

-- A sample of a recording counts as one, under its thread, stack and column.
abbrev pub counted_key : Counted SampleValue → SampleValue
counted_key one = one.key
