-- What is named, and the ids of names.
use Rattle.std.specs.Prelude.{◌≡◌, ℕ, ℤ, ◌<◌, true, Bool, List, length, map, Option, slice_get, Some}
use Rattle.std.specs.Borrow.{Bor}
use Rattle.std.specs.Option.{option_map}
use Rattle.perfdata_events.specs.declared.fields.task.Task.{Task}
use Rattle.perfdata_events.specs.declared.sample.SampleRecord.{SampleRecord}
use Rattle.perfdata_profile.specs.Names.{number_of}
use Rattle.perfdata_profile.specs.Values.{AreNamedIn, LineValue, line_in}
use Rattle.perfdata_profile.specs.declared.lines.Line.{Line}
use Rattle.perfdata_profile.specs.declared.names.NameId.{NameId}
use Rattle.perfdata_profile.specs.declared.resolver.FileNames.{FileNames}
use Rattle.perfdata_profile.specs.declared.resolver.ResolvedFrame.{ResolvedFrame}
use Rattle.perfdata_spaces.specs.Effects.{Applied}
use Rattle.perfdata_spaces.specs.Mappings.{MappingValue, mapping_value}
use Rattle.perfdata_stacks.specs.Frames.{lookup_address}
use Rattle.perfdata_stacks.specs.declared.frames.SampleFrame.{SampleFrame}

-- A thread: its ids, and its name as the last record has it.
pub record ThreadValue : Type 0 where
  pub task : Task
  pub comm : Option (List ℕ)

abbrev pub thread_value : Task → Option (Bor (List ℕ)) → ThreadValue
thread_value task comm = record { task = task; comm = option_map (λ c. c.now) comm }

-- A frame of a sample of a process at a time, and the mapping at the address at which it is looked up, with its index.
pub record FrameValue : Type 0 where
  pub pid : ℤ
  pub time : Option ℕ
  pub frame : SampleFrame
  pub index : Option ℕ
  pub mapping : Option MappingValue

abbrev pub frame_value : ResolvedFrame → FrameValue
frame_value f = record { pid = f.pid; time = f.time; frame = f.frame; index = f.index; mapping = option_map (λ m. mapping_value m.now) f.mapping }

-- Two frames are looked up at the same address of the same mapping.
pub record AreAtOneAddress (frame other : FrameValue) : Type 0 where
  pub index : other.index ≡ frame.index
  pub mapping : other.mapping ≡ frame.mapping
  pub address : lookup_address other.frame ≡ lookup_address frame.frame

-- What a resolver may answer. The records are those before the sample.
pub record Meaning : Type 1 where
  -- A thread can have a name.
  pub names_thread : ThreadValue → List ℕ → Type 0
  -- A frame can have lines: those of its functions, the innermost first.
  pub has_lines : FrameValue → List LineValue → Type 0
  -- The file of a mapping can have a path and a build id.
  pub names_file : MappingValue → List ℕ → List ℕ → Type 0
  -- A sample with the `misc` of its record header can have frames, the leaf first.
  pub has_frames : List Applied → ℕ → SampleRecord → List SampleFrame → Type 0

-- An id is that of a name with a property.
pub record IsIdOf (is_name : List ℕ → Type 0) (names : List (List ℕ)) (id : NameId) : Type 0 where
  pub name : List ℕ
  pub at : slice_get names (number_of id) ≡ Some name
  pub is : is_name name

-- Lines are those of a frame, one or more. If they are fixed, all frames at the same address of the same mapping can have them.
pub record AreFrameLines (has_lines : FrameValue → List LineValue → Type 0) (frame : FrameValue) (names : List (List ℕ)) (lines : List Line)
    (is_fixed : Bool) : Type 0 where
  pub named : AreNamedIn names lines
  pub some : 0 < length lines
  pub are : has_lines frame (map (line_in names) lines)
  pub fixed : is_fixed ≡ true → (other : FrameValue) → AreAtOneAddress frame other → has_lines other (map (line_in names) lines)

-- Ids are those of a path and a build id with a property.
pub record AreFileIds (are_names : List ℕ → List ℕ → Type 0) (names : List (List ℕ)) (file : FileNames) : Type 0 where
  pub path : List ℕ
  pub build_id : List ℕ
  pub path_at : slice_get names (number_of file.path) ≡ Some path
  pub build_id_at : slice_get names (number_of file.build_id) ≡ Some build_id
  pub are : are_names path build_id
