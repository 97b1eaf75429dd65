-- Laws of the stacks of recordings.
use Rattle.std.specs.Prelude.{◌≡◌, ℕ, ◌+◌, ◌≤◌, List, ◌++◌, length, map, take, drop}
use Rattle.std.specs.List.Sorted.{IsPermutation}
use Rattle.linux_perf_data.specs.InMemoryReading.{ReturnsRecordsInMemory}
use Rattle.linux_perf_data.specs.RecordViews.{record_view_of}
use Rattle.linux_perf_data.specs.declared.in_memory.InMemoryRecords.{InMemoryRecords}
use Rattle.linux_perf_data.specs.declared.perf_file.PerfFile.{PerfFile}
use Rattle.perfdata_order.specs.InMemoryOrder.{Entry, IsNewOrder}
use Rattle.perfdata_order.specs.declared.in_memory.InMemoryOrderedRecords.{InMemoryOrderedRecords}
use Rattle.perfdata_spaces.specs.Effects.{Applied}
use Rattle.perfdata_stack_arrays.specs.Mappings.{text_in}
use Rattle.perfdata_stack_arrays.specs.Reading.{ReadsEvents}
use Rattle.perfdata_stack_arrays.specs.Event.{Event}
use Rattle.perfdata_stack_arrays.specs.declared.records.Records.{Records}
use Rattle.perfdata_stack_arrays.specs.declared.records.Records.TheVariants.{ByTime}

-- The iterator over the input returns some records. Each of them is among these once, or is held.
pub record AreReadOnce (records : InMemoryRecords) (file : PerfFile) (entries : List Entry) : Type 0 where
  pub read : List Entry
  pub held : List Entry
  pub now : InMemoryRecords
  pub now_file : PerfFile
  pub of_input : ReturnsRecordsInMemory records file (map (λ (e : Entry). record_view_of e.0 e.1) read) now now_file
  pub once : IsPermutation read (entries ++ held)

abbrev pub ReturnsRecordsOnce : Type 0
ReturnsRecordsOnce =
    (records : InMemoryRecords) (first : InMemoryOrderedRecords) (file last_file : PerfFile) (entries : List Entry) (events : List Event) (last : Records)
    → IsNewOrder records first → ReadsEvents (ByTime first) file entries events last last_file → AreReadOnce records file entries

abbrev pub NamesTextOf : Type 0
NamesTextOf = (before more : List Applied) (offset size : ℕ) → offset + size ≤ length (text_in before)
    → take size (drop offset (text_in (before ++ more))) ≡ take size (drop offset (text_in before))
