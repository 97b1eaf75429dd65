-- Which samples of a recording are counted, and under which keys.
use Rattle.std.specs.Prelude.{◌≡◌, ℕ, ℤ, ◌+◌, ◌-◌, ◌%◌, ◌^◌, ◌<◌, ◌&&◌, length, min, nat_le, nat_lt, Bool, true, false, List, [], ◌∷◌, ◌++◌, negsuc, Option, None, Some}
use Rattle.std.specs.List.{flat_map}
use Rattle.std.specs.Option.{option_map, unwrap_or}
use Rattle.perfdata_sources.specs.CpuMode.{cpu_mode_of}
use Rattle.perfdata_events.specs.declared.event.EventRecord.{EventRecord}
use Rattle.perfdata_events.specs.declared.event.EventRecord.TheVariants.{Sample}
use Rattle.perfdata_events.specs.declared.fields.task.Task.{Task}
use Rattle.perfdata_events.specs.declared.sample.SampleRecord.{SampleRecord}
use Rattle.perfdata_profile.specs.Resolving.{FrameValue, Meaning}
use Rattle.perfdata_profile.specs.Tallies.{Counted}
use Rattle.perfdata_profile.specs.Threads.{pid_of, tid_of}
use Rattle.perfdata_profile.specs.Values.{LocationValue, RangeValue, SampleValue, ThreadKey}
use Rattle.perfdata_profile.specs.declared.options.Detail.{Detail}
use Rattle.perfdata_profile.specs.declared.options.Detail.TheVariants.{Functions, Locations}
use Rattle.perfdata_profile.specs.declared.options.ProfileOptions.{ProfileOptions}
use Rattle.perfdata_profile.specs.declared.options.ThreadIds.{ThreadIds}
use Rattle.perfdata_profile.specs.declared.sums.SampleWeight.{SampleWeight}
use Rattle.perfdata_spaces.specs.AddressSpaces.{name_effects, space_effects}
use Rattle.perfdata_spaces.specs.Effects.{Applied}
use Rattle.perfdata_spaces.specs.Histories.{IndexedMapping, IsFound, context_in}
use Rattle.perfdata_spaces.specs.Mappings.{MappingValue}
use Rattle.perfdata_spaces.specs.NameHistories.{IsName}
use Rattle.perfdata_stacks.specs.Frames.{lookup_address, sample_frames}
use Rattle.perfdata_stacks.specs.declared.frames.SampleFrame.{SampleFrame}

-- A record of a recording, with the `misc` of its header, and the column and the weight of a sample that is selected.
pub record Given : Type 0 where
  pub misc : ℕ
  pub event : EventRecord
  pub weight : Option SampleWeight

-- Records that aren't samples change what is mapped and what threads are called.
abbrev pub applied_as : ℕ → EventRecord → List Applied
applied_as misc (Sample sample) = []
applied_as misc event = record { misc = misc; event = event } ∷ []

abbrev pub applied_by : Given → List Applied
applied_by given = applied_as given.misc given.event

abbrev pub applied_in : List Given → List Applied
applied_in given = flat_map applied_by given

-- Whether a record is a sample that is selected.
abbrev pub is_selected_as : EventRecord → Option SampleWeight → Bool
is_selected_as (Sample sample) (Some weight) = true
is_selected_as (Sample sample) None = false
is_selected_as event weight = false

abbrev pub is_selected : Given → Bool
is_selected given = is_selected_as given.event given.weight

-- The process and the thread of a sample. They are -1 for samples without.
abbrev pub sample_task : SampleRecord → Task
sample_task sample = unwrap_or sample.task (record { pid = negsuc 0; tid = negsuc 0 })

-- The frames of a sample, the leaf first.
abbrev pub frames_in : ℕ → SampleRecord → List SampleFrame
frames_in misc sample = sample_frames sample (context_in (cpu_mode_of (misc % 8)))

-- The elements of two lists are related one by one.
abbrev pub AreRelated : {A B : Type 0} → (A → B → Type 0) → List A → List B → Type 0
AreRelated relation [] [] = Unit {0}
AreRelated relation [] (y ∷ ys) = ⊥
AreRelated relation (x ∷ xs) [] = ⊥
AreRelated relation (x ∷ xs) (y ∷ ys) = relation x y × AreRelated relation xs ys

-- The address after a mapping, at most 2^64 - 1.
abbrev pub end_of : MappingValue → ℕ
end_of mapping = min (mapping.start + mapping.byte_length) (2 ^ 64 - 1)

-- Whether an address is in the range of a mapping.
abbrev pub is_in_range : MappingValue → ℕ → Bool
is_in_range mapping address = nat_le mapping.start address && nat_lt address (end_of mapping)

module _ (meaning : Meaning) where
  -- A range is that of a mapping, with a path and a build id of its file.
  pub record IsRange (mapping : MappingValue) (range : RangeValue) : Type 0 where
    pub start : range.start ≡ mapping.start
    pub end : range.end ≡ end_of mapping
    pub page_offset : range.page_offset ≡ mapping.page_offset
    pub file : meaning.names_file mapping range.path range.build_id

  -- The range of a mapping, if it contains an address. Mappings that are found at an address contain it, but 2^64 - 1 is in no range.
  abbrev pub IsRangeAt : Option MappingValue → ℕ → Option RangeValue → Type 0
  IsRangeAt None address range = range ≡ None
  IsRangeAt (Some mapping) address None = is_in_range mapping address ≡ false
  IsRangeAt (Some mapping) address (Some range) = (is_in_range mapping address ≡ true) × IsRange mapping range

  -- The range and the address of a location, by the mapping at an address and the address.
  abbrev pub IsPlace : Detail → Option MappingValue → ℕ → Option RangeValue → ℕ → Type 0
  IsPlace Functions mapping address range placed = (range ≡ None) × (placed ≡ 0)
  IsPlace Locations mapping address range placed = IsRangeAt mapping address range × (placed ≡ address)

  module _ (detail : Detail) where
    -- A location is one of a frame, by the mapping at the address at which it is looked up. It has at least one line.
    pub record IsLocationOf (frame : FrameValue) (location : LocationValue) : Type 0 where
      pub are_lines : meaning.has_lines frame location.lines
      pub has_line : 0 < length location.lines
      pub is_place : IsPlace detail frame.mapping (lookup_address frame.frame) location.mapping location.address

    -- A location of a frame after records: one for what is mapped then at the address at which it is looked up.
    pub record Locates (before : List Applied) (pid : ℤ) (time : Option ℕ) (frame : SampleFrame) (location : LocationValue) : Type 0 where
      pub found : Option IndexedMapping
      pub is_found : IsFound (space_effects before) pid (lookup_address frame) frame.frame.context found
      pub is_location : IsLocationOf (record {
        pid = pid;
        time = time;
        frame = frame;
        index = option_map (λ (f : IndexedMapping). f.index) found;
        mapping = option_map (λ (f : IndexedMapping). f.mapping) found;
      }) location

  -- A thread after records: its name is one for what the records call it.
  pub record IsThread (ids : ThreadIds) (before : List Applied) (task : Task) (thread : ThreadKey) : Type 0 where
    pub comm : Option (List ℕ)
    pub is_comm : IsName task.tid (name_effects before) comm
    pub is_name : meaning.names_thread (record { task = task; comm = comm }) thread.name
    pub pid : thread.pid ≡ pid_of ids task
    pub tid : thread.tid ≡ tid_of ids task

  -- The thread, the stack and the column of a sample after records.
  pub record IsSample (options : ProfileOptions) (before : List Applied) (misc : ℕ) (sample : SampleRecord) (column : ℕ) (value : SampleValue) : Type 0 where
    pub is_thread : IsThread options.thread_ids before (sample_task sample) value.thread
    pub frames : List SampleFrame
    pub has_frames : meaning.has_frames before misc sample frames
    pub are_located : AreRelated (Locates options.detail before (sample_task sample).pid sample.timestamp) frames value.stack
    pub is_column : value.column ≡ column

-- What the selected samples of records are counted as, in order. `is_key` says under which keys a sample is counted after records.
pub data AreCounted {K : Type 0} (is_key : List Applied → ℕ → SampleRecord → ℕ → K → Type 0) : List Given → List (Counted K) → Type 0 where
  -- There are no records.
  none : (given : List Given) (counted : List (Counted K)) → given ≡ [] → counted ≡ [] → AreCounted is_key given counted
  -- A record that isn't a selected sample isn't counted.
  passed : (given earlier : List Given) (counted : List (Counted K)) (last : Given) → given ≡ earlier ++ last ∷ []
      → is_selected last ≡ false → AreCounted is_key earlier counted → AreCounted is_key given counted
  -- A selected sample is counted once, after the records before it.
  sample : (given earlier : List Given) (all counted : List (Counted K)) (misc : ℕ) (sample : SampleRecord) (weight : SampleWeight) (key : K)
      → given ≡ earlier ++ record { misc = misc; event = Sample sample; weight = Some weight } ∷ []
      → all ≡ counted ++ record { key = key; weight = weight.weight } ∷ [] → is_key (applied_in earlier) misc sample weight.column key
      → AreCounted is_key earlier counted → AreCounted is_key given all
