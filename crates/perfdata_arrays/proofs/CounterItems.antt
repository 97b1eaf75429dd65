-- The counters that records add are determined by the records.
use Rattle.std.proofs.Common.{◌≡◌, ℕ, zero, suc, ◌+◌, ◌-◌, ◌*◌, ◌/◌, ◌++◌, false, List, [], ◌∷◌, length, refl, ap, Option, None, Some}
use Rattle.std.specs.Prelude.{slice_index, if◌then◌else◌}
use Rattle.std.specs.Option.{option_map, unwrap_or}
use Rattle.perfdata_base.specs.declared.event.raw_event_record.RawEventRecord.{RawEventRecord}
use Rattle.perfdata_events.specs.EventView.{EventView, event_view, read_view, sample_view}
use Rattle.perfdata_events.specs.ReadValues.{Counters, Values, counter_count, counter_width, group, group_of, single, values_of}
use Rattle.perfdata_events.specs.declared.event.EventRecord.{EventRecord}
use Rattle.perfdata_events.specs.declared.event.EventRecord.TheVariants.{Read, Sample}
use Rattle.perfdata_events.specs.declared.fields.read_values.CounterValue.{CounterValue}
use Rattle.perfdata_events.specs.declared.fields.read_values.GroupValues.{GroupValues}
use Rattle.perfdata_events.specs.declared.fields.read_values.ReadValues.{ReadValues}
use Rattle.perfdata_events.specs.declared.fields.read_values.ReadValues.TheVariants.{Single, Group}
use Rattle.perfdata_events.specs.declared.fields.read_values.Times.{Times}
use Rattle.perfdata_arrays.proofs.EntryItems.{event_laws, has_unique_entries}
use Rattle.perfdata_arrays.proofs.KindLaws.{KindLaws}
use Rattle.perfdata_arrays.proofs.ParsedOnce.{with_raw}
use Rattle.perfdata_arrays.specs.Counters.{counter_entries, counter_kind, event_counters, group_entries, is_counter_type}
use Rattle.perfdata_arrays.specs.declared.counters.CounterEntry.{CounterEntry}
use Rattle.perfdata_arrays.specs.declared.envelope.EntryEnvelope.{EntryEnvelope}

-- the counter of a group at an index, by the numbers of all
abbrev value_at : Counters → ℕ → CounterValue
value_at c index = record {
  value = slice_index c.numbers (counter_width c.has_id c.has_lost * index);
  id = if c.has_id then Some (slice_index c.numbers (counter_width c.has_id c.has_lost * index + 1)) else None;
  lost = if c.has_lost then Some (slice_index c.numbers (counter_width c.has_id c.has_lost * index + (counter_width c.has_id c.has_lost - 1))) else None;
}

abbrev entry_in_group : ℕ → Times → CounterValue → CounterEntry
entry_in_group offset times counter = record {
  value = counter.value;
  id = unwrap_or counter.id 0;
  time_enabled = unwrap_or times.time_enabled 0;
  time_running = unwrap_or times.time_running 0;
  lost = unwrap_or counter.lost 0;
  sample = offset;
}

abbrev entries_in_group : ℕ → Times × Counters → ℕ → List CounterEntry
entries_in_group offset v zero = []
entries_in_group offset v (suc n) = entries_in_group offset v n ++ entry_in_group offset v.0 (value_at v.1 n) ∷ []

abbrev counters_of_values : ℕ → Option Values → List CounterEntry
counters_of_values offset None = []
counters_of_values offset (Some (single v)) = record {
  value = v.0;
  id = unwrap_or v.1.id 0;
  time_enabled = unwrap_or v.1.time_enabled 0;
  time_running = unwrap_or v.1.time_running 0;
  lost = unwrap_or v.1.lost 0;
  sample = offset;
} ∷ []
counters_of_values offset (Some (group v)) = entries_in_group offset v (length v.1.numbers / counter_width v.1.has_id v.1.has_lost)

in_group : (offset : ℕ) (v : GroupValues) (n : ℕ) → group_entries offset v n ≡ entries_in_group offset (group_of v) n
in_group offset v zero = refl
in_group offset v (suc n) = ap (λ l. l ++ entry_in_group offset (group_of v).0 (value_at (group_of v).1 n) ∷ []) (in_group offset v n)

by_values : (offset : ℕ) (v : Option ReadValues) → counter_entries offset v ≡ counters_of_values offset (option_map values_of v)
by_values offset None = refl
by_values offset (Some (Single v)) = refl
by_values offset (Some (Group v)) = in_group offset v (counter_count v)

abbrev counters_of_view : EntryEnvelope → EventView → List CounterEntry
counters_of_view envelope (read_view v) = counters_of_values envelope.offset (Some v.1)
counters_of_view envelope (sample_view v) = counters_of_values envelope.offset v.0.1.1.1.0
counters_of_view envelope _ = []

counters_by_view : (envelope : EntryEnvelope) (raw : RawEventRecord) (e : EventRecord) → event_counters envelope e ≡ counters_of_view envelope (event_view (with_raw raw e))
counters_by_view envelope raw (Read v) = by_values envelope.offset (Some v.values)
counters_by_view envelope raw (Sample v) = by_values envelope.offset v.values
counters_by_view envelope raw _ = refl

pub counter_laws : KindLaws counter_kind
counter_laws = event_laws is_counter_type event_counters false (has_unique_entries is_counter_type event_counters counters_of_view counters_by_view) (λ is envelope e. absurd cc)
