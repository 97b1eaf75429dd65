-- The stacks of a recording.
use Rattle.std.specs.Prelude.{◌≡◌, ◌⊎◌, ℕ, List, [], ◌∷◌, ◌++◌, Option, None, Some, Result, Ok, Err}
use Rattle.perfdata_sections.specs.declared.error.Error.{Error}
use Rattle.perfdata_sections.specs.declared.error.Error.TheVariants.{Memory}
use Rattle.linux_perf_data.specs.InMemoryReading.{ParsesFileInMemory, ParsesPipeInMemory}
use Rattle.linux_perf_data.specs.PerfFile.{attributes_of_file, descriptions_of_file, endian_of_file}
use Rattle.linux_perf_data.specs.RecordViews.{record_view_of}
use Rattle.linux_perf_data.specs.declared.in_memory.InMemoryReader.{InMemoryReader}
use Rattle.linux_perf_data.specs.declared.perf_file.PerfFile.{PerfFile}
use Rattle.perfdata_arrays.specs.Status.{error_status, walk_status}
use Rattle.perfdata_arrays.specs.declared.status.Status.{Status}
use Rattle.perfdata_order.specs.InMemoryOrder.{Entry}
use Rattle.perfdata_spaces.specs.Effects.{Applied}
use Rattle.perfdata_stack_arrays.specs.Events.{IsEventOf}
use Rattle.perfdata_stack_arrays.specs.Mappings.{mappings_in, text_in}
use Rattle.perfdata_stack_arrays.specs.Records.{ReturnsNext, StartsRecords}
use Rattle.perfdata_stack_arrays.specs.HasTimes.{has_times}
use Rattle.perfdata_stack_arrays.specs.Stacks.{AreStacksOf, applied_by, applied_in}
use Rattle.perfdata_stack_arrays.specs.Written.{WritesAll, Written, totals_of}
use Rattle.perfdata_stack_arrays.specs.Event.{Event}
use Rattle.perfdata_stack_arrays.specs.declared.records.Records.{Records}
use Rattle.perfdata_stack_arrays.specs.declared.stacks.StacksResult.{StacksResult}

-- The event of a record is one by the attributes that are known when it is returned.
abbrev pub IsEntryEvent : PerfFile → Entry → Option Event → Type 0
IsEntryEvent file entry event = IsEventOf (endian_of_file file) (attributes_of_file file) (record_view_of entry.0 entry.1) event

-- Consecutive calls returned these records, and these are the events among them.
pub data ReadsEvents (start : Records) (file : PerfFile) : List Entry → List Event → Records → PerfFile → Type 0 where
  no_calls : ReadsEvents start file [] [] start file
  -- A record that is no event, or can't be parsed, was returned.
  other_returned : (entries : List Entry) (events : List Event) (now new : Records) (now_file new_file : PerfFile) (entry : Entry)
      → ReadsEvents start file entries events now now_file → ReturnsNext now now_file (Ok (Some entry)) new new_file → IsEntryEvent new_file entry None
      → ReadsEvents start file (entries ++ entry ∷ []) events new new_file
  event_returned : (entries : List Entry) (events : List Event) (now new : Records) (now_file new_file : PerfFile) (entry : Entry) (event : Event)
      → ReadsEvents start file entries events now now_file → ReturnsNext now now_file (Ok (Some entry)) new new_file → IsEntryEvent new_file entry (Some event)
      → ReadsEvents start file (entries ++ entry ∷ []) (events ++ event ∷ []) new new_file

-- The stacks of events.
pub record HasStacks (events : List Event) (own : Written) : Type 0 where
  pub are_stacks : AreStacksOf events own.stacks own.frames
  pub mappings_are : own.mappings ≡ mappings_in (applied_in events)
  pub text_is : own.text ≡ text_in (applied_in events)

-- How a walk ends: at the end of the records, at the error of the next call, or since memory ran out for the record that it returned,
-- which isn't a sample.
pub record RunsOut (now : Records) (now_file : PerfFile) (e : Error) (new : Records) (file' : PerfFile) : Type 0 where
  pub memory : e ≡ Memory
  pub entry : Entry
  pub returned : ReturnsNext now now_file (Ok (Some entry)) new file'
  pub event : Event
  pub is_event : IsEntryEvent file' entry (Some event)
  pub applied : Applied
  pub applied_is : applied_by event ≡ applied ∷ []

abbrev pub EndsWalk : Records → PerfFile → Result (Unit {0}) Error → Records → PerfFile → Type 0
EndsWalk now now_file (Ok done) new file' = ReturnsNext now now_file (Ok None) new file'
EndsWalk now now_file (Err e) new file' = ReturnsNext now now_file (Err e) new file' ⊎ RunsOut now now_file e new file'

-- The stacks are those of an opened recording: of its records in order of time, or in the order of the input.
pub record IsReadOf (reader : InMemoryReader) (own : Written) (s : Status) : Type 0 where
  pub start : Records
  pub starts : StartsRecords (has_times (endian_of_file reader.perf_file) (descriptions_of_file reader.perf_file)) reader.records start
  pub entries : List Entry
  pub events : List Event
  pub at_end : Records
  pub file_at_end : PerfFile
  pub read : ReadsEvents start reader.perf_file entries events at_end file_at_end
  pub has : HasStacks events own
  pub end : Result (Unit {0}) Error
  pub last : Records
  pub last_file : PerfFile
  pub ends : EndsWalk at_end file_at_end end last last_file
  pub status_is : s ≡ walk_status end

-- Nothing is counted or written, since the input doesn't open.
pub record FailsToOpen (opened : Result InMemoryReader Error) (own : Written) (s : Status) : Type 0 where
  pub error : Error
  pub is_error : opened ≡ Err error
  pub stacks_none : own.stacks ≡ []
  pub frames_none : own.frames ≡ []
  pub mappings_none : own.mappings ≡ []
  pub text_none : own.text ≡ []
  pub status_is : s ≡ error_status error

-- The result for an input that was opened, or not: all stacks are counted, and written up to the capacities.
pub record ReadsStacksOf (opened : Result InMemoryReader Error) (before : Written) (result : StacksResult) (after : Written) : Type 0 where
  pub own : Written
  pub totals_are : result.totals ≡ totals_of own
  pub writes : WritesAll own before after
  pub ends : FailsToOpen opened own result.status ⊎ ((reader : InMemoryReader) × ((opened ≡ Ok reader) × IsReadOf reader own result.status))

-- The result for a file.
pub record ReadsFileStacks (bytes : List ℕ) (before : Written) (result : StacksResult) (after : Written) : Type 0 where
  pub opened : Result InMemoryReader Error
  pub parses : ParsesFileInMemory bytes opened
  pub reads : ReadsStacksOf opened before result after

-- The result for a pipe.
pub record ReadsPipeStacks (bytes : List ℕ) (before : Written) (result : StacksResult) (after : Written) : Type 0 where
  pub opened : Result InMemoryReader Error
  pub parses : ParsesPipeInMemory bytes opened
  pub reads : ReadsStacksOf opened before result after
