-- The counter values of samples and of READ records, as plain numbers.
use Rattle.std.specs.Prelude.{ℕ, zero, suc, ◌==◌, ◌||◌, ◌++◌, Bool, false, List, [], ◌∷◌, Option, None, Some}
use Rattle.std.specs.Option.{unwrap_or}
use Rattle.perfdata_events.specs.ReadValues.{counter_at, counter_count}
use Rattle.perfdata_events.specs.declared.event.EventRecord.{EventRecord}
use Rattle.perfdata_events.specs.declared.event.EventRecord.TheVariants as event
use Rattle.perfdata_events.specs.declared.fields.read_values.CounterValue.{CounterValue}
use Rattle.perfdata_events.specs.declared.fields.read_values.GroupValues.{GroupValues}
use Rattle.perfdata_events.specs.declared.fields.read_values.ReadValues.{ReadValues}
use Rattle.perfdata_events.specs.declared.fields.read_values.ReadValues.TheVariants.{Single, Group}
use Rattle.perfdata_events.specs.declared.fields.read_values.SingleValues.{SingleValues}
use Rattle.linux_perf_data.specs.declared.in_memory.position.RecordPosition.{RecordPosition}
use Rattle.perfdata_arrays.specs.DecodedPages.{ReadsDecodedPage, ReadsDecodedPipe}
use Rattle.perfdata_arrays.specs.Decoding.{EntryKind}
use Rattle.perfdata_arrays.specs.declared.pages.PageResult.{PageResult}
use Rattle.perfdata_arrays.specs.Entries.{event_kind}
use Rattle.perfdata_arrays.specs.declared.counters.CounterEntry.{CounterEntry}
use Rattle.perfdata_arrays.specs.declared.envelope.EntryEnvelope.{EntryEnvelope}

-- The entry of a single counter, of the record with this offset. What it doesn't have is 0.
abbrev pub single_entry : ℕ → SingleValues → CounterEntry
single_entry offset v = record {
  value = v.value;
  id = unwrap_or v.id 0;
  time_enabled = unwrap_or v.time_enabled 0;
  time_running = unwrap_or v.time_running 0;
  lost = unwrap_or v.lost 0;
  sample = offset;
}

-- The entry of a counter of a group. Its times are those of the group.
abbrev pub group_entry : ℕ → GroupValues → CounterValue → CounterEntry
group_entry offset v counter = record {
  value = counter.value;
  id = unwrap_or counter.id 0;
  time_enabled = unwrap_or v.time_enabled 0;
  time_running = unwrap_or v.time_running 0;
  lost = unwrap_or counter.lost 0;
  sample = offset;
}

-- The entries of the first counters of a group.
abbrev pub group_entries : ℕ → GroupValues → ℕ → List CounterEntry
group_entries offset v zero = []
group_entries offset v (suc n) = group_entries offset v n ++ group_entry offset v (counter_at v n) ∷ []

abbrev pub counter_entries : ℕ → Option ReadValues → List CounterEntry
counter_entries offset None = []
counter_entries offset (Some (Single v)) = single_entry offset v ∷ []
counter_entries offset (Some (Group v)) = group_entries offset v (counter_count v)

-- the counter values of a parsed record: READ (8), and a sample (9) that has some
abbrev pub event_values : EventRecord → Option ReadValues
event_values (event.Read read) = Some read.values
event_values (event.Sample sample) = sample.values
event_values _ = None

abbrev pub event_counters : EntryEnvelope → EventRecord → List CounterEntry
event_counters envelope event = counter_entries envelope.offset (event_values event)

abbrev pub is_counter_type : ℕ → Bool
is_counter_type kind = (kind == 8) || (kind == 9)

abbrev pub counter_kind : EntryKind CounterEntry (Unit {0})
counter_kind = event_kind is_counter_type event_counters false

-- the result for a page of a file
abbrev pub ReadsCounterPage : List ℕ → RecordPosition → List CounterEntry → PageResult → RecordPosition → List CounterEntry → Type 0
ReadsCounterPage bytes from counters result next counters' = ReadsDecodedPage counter_kind bytes from counters [] result next counters' []

-- the result for a pipe
abbrev pub ReadsPipeCounters : List ℕ → List CounterEntry → PageResult → List CounterEntry → Type 0
ReadsPipeCounters bytes counters result counters' = ReadsDecodedPipe counter_kind bytes counters [] result counters' []
