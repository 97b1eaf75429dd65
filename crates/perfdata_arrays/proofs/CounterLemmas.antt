-- The number of a record's counters, and pages of counters.
use Rattle.std.proofs.Common.{Bool, ◌≡◌, ℕ, zero, suc, ◌+◌, ◌-◌, ◌*◌, ◌/◌, ◌≤◌, ◌++◌, true, false, List, [], ◌∷◌, length, refl, sym, ap, arith, length-append, length-drop, Option, None, Some}
use Rattle.std.proofs.lemmas.List.{length-take}
use Rattle.std.specs.Option.{option_map}
use Rattle.perfdata_sources.specs.Endian.{number_in}
use Rattle.perfdata_identifiers.specs.ParseInfo.{is_set}
use Rattle.perfdata_sources.specs.Raw.{bytes_of}
use Rattle.perfdata_base.specs.declared.event.raw_event_record.RawEventRecord.{RawEventRecord}
use Rattle.perfdata_events.specs.Event.{IsParsed}
use Rattle.perfdata_events.specs.EventFormat.{before_trailing, trailing_size}
use Rattle.perfdata_events.specs.Format.{encodes, optional}
use Rattle.perfdata_events.specs.ReadValues.{counter_at, counter_count, counter_width, read_values, values_of}
use Rattle.perfdata_events.specs.Words.{u64s_in}
use Rattle.perfdata_events.specs.declared.event.EventRecord.{EventRecord}
use Rattle.perfdata_events.specs.declared.event.EventRecord.TheVariants as event
use Rattle.perfdata_events.specs.declared.fields.read_values.GroupValues.{GroupValues}
use Rattle.perfdata_events.specs.declared.fields.read_values.ReadValues.{ReadValues}
use Rattle.perfdata_events.specs.declared.fields.read_values.ReadValues.TheVariants.{Single, Group}
use Rattle.perfdata_events.specs.declared.format.EventFormat.{EventFormat}
use Rattle.perfdata_arrays.proofs.SampleBounds.{after_within, length-u64s_of}
use Rattle.perfdata_arrays.specs.Counters.{counter_entries, event_counters, group_entries, group_entry}
use Rattle.perfdata_arrays.specs.declared.envelope.EntryEnvelope.{EntryEnvelope}

pub length_group_entries : (offset : ℕ) (v : GroupValues) (n : ℕ) → length (group_entries offset v n) ≡ n
length_group_entries offset v zero = refl
length_group_entries offset v (suc n) =
    let before = length_group_entries offset v n in
    omega (arith, before, length-append (group_entries offset v n) (group_entry offset v (counter_at v n) ∷ []))

pub group_entries_next : (offset : ℕ) (v : GroupValues) (n : ℕ) → group_entries offset v (n + 1) ≡ group_entries offset v n ++ group_entry offset v (counter_at v n) ∷ []
group_entries_next offset v n = let e : n + 1 ≡ suc n = omega arith in rw e refl

pub count_of_group : (v : GroupValues) (offset : ℕ) → counter_count v ≡ length (group_entries offset v (counter_count v))
count_of_group v offset = sym (length_group_entries offset v (counter_count v))

-- a group has no more counters than numbers
few_counters : (has_id has_lost : Bool) (n : ℕ) → n / counter_width has_id has_lost ≤ n
few_counters true true n = omega arith
few_counters true false n = omega arith
few_counters false true n = omega arith
few_counters false false n = omega arith

values_within : (of : ℕ → List ℕ → ℕ) (format offset : ℕ) (v : ReadValues) (xs rest : List ℕ) → read_values of format xs (encodes (values_of v) rest) → length (counter_entries offset (Some v)) ≤ length xs
values_within of format offset (Single v) xs rest h = (let enough = h.1.starts.enough in omega (arith, enough))
values_within of format offset (Group v) xs rest h =
    let numbers = u64s_in v.numbers in
    let first = h.1.starts.rest_is in
    let times = h.1.goes_on.starts.rest_is in
    let are = h.1.goes_on.goes_on.numbers_are in
    let enough = are.enough in
    let few = few_counters v.has_id v.has_lost (length numbers) in
    omega (
      arith,
      ap length first,
      length-drop 8 xs,
      ap length times,
      after_within format (0 ∷ 1 ∷ []) h.1.middle,
      enough,
      ap length are.values_are,
      length-u64s_of of (counter_width (is_set format 2) (is_set format 4) * h.1.lead) h.1.goes_on.middle,
      few,
      length_group_entries offset v (length numbers / counter_width v.has_id v.has_lost),
    )

optional_within : (of : ℕ → List ℕ → ℕ) (format offset : ℕ) (present : Bool) (v : Option ReadValues) (xs rest : List ℕ) → optional present (read_values of format) xs (encodes (option_map values_of v) rest) → length (counter_entries offset v) ≤ length xs
optional_within of format offset present None xs rest h = omega arith
optional_within of format offset present (Some v) xs rest h = values_within of format offset v xs rest h.1

-- a parsed record has no more counters than its body has bytes
pub event_within : (format : EventFormat) (raw : RawEventRecord) (envelope : EntryEnvelope) (event : EventRecord) → IsParsed format raw event → length (event_counters envelope event) ≤ length (bytes_of raw.body)
event_within format raw envelope (event.Read v) is =
    let body = bytes_of raw.body in
    let before = before_trailing format body in
    let read = is.1.event_is.1 in
    let within = values_within (number_in format.endian) format.read_format.0 envelope.offset v.values read.middle _ read.goes_on in
    omega (arith, within, ap length read.starts.rest_is, length-drop 8 before, length-take (length body - trailing_size format) body)
event_within format raw envelope (event.Sample v) is =
    let bits = format.sample_format.0 in
    let body = bytes_of raw.body in
    let origin = is.event_is.starts in
    let words = origin.goes_on in
    let period = words.goes_on in
    let counters = period.goes_on in
    let within = optional_within (number_in format.endian) format.read_format.0 envelope.offset (is_set bits 4) v.values period.middle counters.middle counters.starts in
    omega (arith, within, ap length origin.starts.rest_is, after_within bits (16 ∷ 0 ∷ 1 ∷ 2 ∷ []) body, ap length words.starts.rest_is, after_within bits (3 ∷ 6 ∷ 9 ∷ 7 ∷ []) origin.middle, period.starts.all_bytes)
event_within format raw envelope other is = omega arith
