-- Steps of private functions: what the bodies of single records say.
use Rattle.std.specs.Prelude.{◌≡◌, ℕ, List, length}
use Rattle.std.specs.Option.{unwrap_or}
use Rattle.perfdata_events.specs.declared.event.EventRecord.{EventRecord}
use Rattle.linux_perf_data.specs.RecordEntries.{with_prefix}
use Rattle.linux_perf_data.specs.declared.in_memory.entries.RecordEntry.{RecordEntry}
use Rattle.perfdata_arrays.specs.Counters.{event_counters}
use Rattle.perfdata_arrays.specs.Mappings.{event_mapping}
use Rattle.perfdata_arrays.specs.Tasks.{event_task}
use Rattle.perfdata_arrays.specs.declared.counters.CounterEntry.{CounterEntry}
use Rattle.perfdata_arrays.specs.declared.mappings.MappingEntry.{MappingEntry}
use Rattle.perfdata_arrays.specs.declared.samples.frame.FrameEntry.{FrameEntry}
use Rattle.perfdata_arrays.specs.declared.samples.sample.Sample.{Sample}
use Rattle.perfdata_arrays.specs.declared.tasks.TaskEntry.{TaskEntry}
use Rattle.perfdata_chunks.specs.Events.{AreSampleValues, IsSampleOf, envelope_of_entry}
use Rattle.perfdata_chunks.specs.declared.single_records.SingleRecord.{SingleRecord}

-- The sample and its frames, up to the capacity.
pub record WritesSample (found : SingleRecord) (entry : RecordEntry) (old : List FrameEntry) (count : ℕ) (sample : Sample) (new : List FrameEntry)
    : Type 0 where
  pub frames : List FrameEntry
  pub sample_is : IsSampleOf found.format found.raw entry sample frames
  pub written : new ≡ with_prefix frames old
  pub count_is : count ≡ length frames

-- The counter values of a parsed record, up to the capacity.
pub record WritesCounters (entry : RecordEntry) (event : EventRecord) (old : List CounterEntry) (count : ℕ) (new : List CounterEntry) : Type 0 where
  pub written : new ≡ with_prefix (event_counters (envelope_of_entry entry) event) old
  pub count_is : count ≡ length (event_counters (envelope_of_entry entry) event)

-- The counter values of a sample, up to the capacity.
pub record WritesValues (found : SingleRecord) (entry : RecordEntry) (old : List CounterEntry) (count : ℕ) (new : List CounterEntry) : Type 0 where
  pub values : List CounterEntry
  pub are : AreSampleValues found.format found.raw entry values
  pub written : new ≡ with_prefix values old
  pub count_is : count ≡ length values

-- A parsed record: its task, its mapping, and its counter values, up to the capacity.
pub record WritesParsed (entry : RecordEntry) (event : EventRecord) (task : TaskEntry) (mapping : MappingEntry) (old : List CounterEntry) (count : ℕ)
    (task' : TaskEntry) (mapping' : MappingEntry) (new : List CounterEntry) : Type 0 where
  pub task_is : task' ≡ unwrap_or (event_task (envelope_of_entry entry) event) task
  pub mapping_is : mapping' ≡ unwrap_or (event_mapping (envelope_of_entry entry) event) mapping
  pub counters : WritesCounters entry event old count new
