-- The formats of samples, and what they add to arrays.
use Rattle.std.proofs.Common.{◌≡◌, ℕ, ◌+◌, ◌<◌, ◌≤◌, Bool, false, List, [], ◌∷◌, length, refl, sym, ap, ◌∙◌, subst, arith, Option, None, Some, Result, Ok, Err}
use Rattle.std.specs.Prelude.{◌==◌, ◌||◌, if◌then◌else◌, slice_get}
use Rattle.std.specs.Option.{option_map, unwrap_or}
use Rattle.std.proofs.lemmas.Option.{slice_get-map}
use Rattle.perfdata_identifiers.specs.declared.place.parse_info.RecordParseInfo.{RecordParseInfo}
use Rattle.perfdata_sources.specs.declared.endian.Endianness.{Endianness}
use Rattle.perfdata_sections.specs.AttributeDescription.{attr_in}
use Rattle.perfdata_sections.specs.declared.feature_sections.AttributeDescription.{AttributeDescription}
use Rattle.linux_perf_data.specs.Descriptions.{described_attribute, described_attributes}
use Rattle.perfdata_events.specs.EventFormat.{event_format_of}
use Rattle.perfdata_sources.specs.Raw.{bytes_of}
use Rattle.perfdata_records.specs.declared.record.PerfFileRecord.{PerfFileRecord}
use Rattle.perfdata_records.specs.declared.record.PerfFileRecord.TheVariants.{EventRecord, UserRecord}
use Rattle.linux_perf_data.specs.Attribute.{Attribute}
use Rattle.linux_perf_data.specs.Layout.{RecordView}
use Rattle.linux_perf_data.specs.RecordViews.{record_view_of}
use Rattle.linux_perf_data.specs.declared.records.iter.RecordPlace.{RecordPlace}
use Rattle.perfdata_arrays.proofs.Arrays.{no_entries}
use Rattle.perfdata_arrays.proofs.SampleBounds.{adds_within}
use Rattle.perfdata_arrays.specs.Bodies.{IsBody}
use Rattle.perfdata_arrays.specs.Decoding.{EntryKind, wants_frames}
use Rattle.perfdata_arrays.specs.steps.Decoding.{DecodesRecord, ExceedsArrays, WritesRecord, wants as wants_in}
use Rattle.perfdata_arrays.specs.Entries.{HasEntries, event_kind}
use Rattle.perfdata_arrays.specs.steps.Entries.{AddsEntries}
use Rattle.perfdata_arrays.specs.Overwrites.{with_entries_at}
use Rattle.perfdata_arrays.specs.SampleRecords.{AddsOf, HasParts, IsFormatAt, IsSampleOf, format_of_event, frames_of_body, sample_kind, saturated}
use Rattle.perfdata_arrays.specs.steps.SampleRecords.{AddsFrames}
use Rattle.perfdata_arrays.specs.Samples.{sample_of}
use Rattle.perfdata_arrays.specs.declared.samples.body.SampleBody.{SampleBody}
use Rattle.perfdata_arrays.specs.declared.samples.frame.FrameEntry.{FrameEntry}
use Rattle.perfdata_arrays.specs.declared.samples.records.SampleParts.{SampleParts}
use Rattle.perfdata_arrays.specs.declared.samples.sample.Sample.{Sample}
use Rattle.linux_perf_data.specs.RecordEntries.{or_zero}
use Rattle.perfdata_events.specs.declared.event.EventRecord.{EventRecord as EventRecordValue}
use Rattle.perfdata_events.specs.declared.format.EventFormat.{EventFormat}
use Rattle.perfdata_arrays.specs.declared.decoder.EntryCounts.{EntryCounts}
use Rattle.perfdata_arrays.specs.declared.envelope.EntryEnvelope.{EntryEnvelope}

-- the format of an event whose attribute is at an index
pub format_at : (order : Endianness) (ds : List AttributeDescription) (index : ℕ) (places : RecordParseInfo) (d : AttributeDescription) → slice_get ds index ≡ Some d
    → format_of_event order (described_attributes ds) (Some (record { index = index; parse_info = places })) ≡ Some (event_format_of (attr_in d) order)
format_at order ds index places d found =
    let format = λ (o : Option AttributeDescription). option_map (λ a. event_format_of a.attr order) (option_map described_attribute o) in
    ap (option_map (λ a. event_format_of a.attr order)) (slice_get-map described_attribute ds index) ∙ ap format found

-- the format of a sample of the attribute at an index
pub format_found : (order : Endianness) (attrs : List Attribute) (kind index : ℕ) (places : RecordParseInfo) (f : Option EventFormat) → kind ≡ 9 → IsFormatAt order attrs index f
    → (if kind == 9 then format_of_event order attrs (Some (record { index = index; parse_info = places })) else None) ≡ f
format_found order attrs kind index places f nine is = rw nine (is places)

pub unwrap_zero : (o : Option ℕ) → unwrap_or o 0 ≡ or_zero o
unwrap_zero None = refl
unwrap_zero (Some n) = refl

-- a record without entries
pub adds_nothing : {A B : Type 0} (kind : EntryKind A B) (counts_all : Bool) (order : Endianness) (attrs : List Attribute) (base : ℕ) (h : RecordView) (count used : ℕ) (entries : List A) (frames : List B)
    → (counts_all ≡ false → count < length entries) → (counts_all ≡ false → used ≤ length frames) → kind.Adds (wants_in counts_all (length frames)) order attrs base used h [] []
    → WritesRecord kind counts_all order attrs base h count used entries frames (record { entries = 0; frames = 0 }) entries frames
adds_nothing kind counts_all order attrs base h count used entries frames free within adds = record {
  own = [];
  own_frames = [];
  adds = adds;
  count_is = refl;
  frames_count_is = refl;
  written = no_entries count entries;
  frames_written = no_entries used frames;
  fits = λ page. (let less = free page in let most = within page in (omega (arith, less), omega (arith, most)));
  few = (omega arith, omega arith);
}

-- the entries of a parsed record
pub decodes_entries : {E : Type 0} (has_type : ℕ → Bool) (entries_of : EntryEnvelope → EventRecordValue → List E) (is_single counts_all : Bool) (order : Endianness) (attrs : List Attribute) (base : ℕ) (h : RecordView) (count used : ℕ) (entries entries' : List E) (frames : List (Unit {0})) (own : List E)
    → (counts_all ≡ false → used ≤ length frames) → HasEntries has_type entries_of order attrs base h own → length own ≤ 8 + length h.body → (r : Result EntryCounts EntryCounts) → AddsEntries own counts_all count entries r entries'
    → DecodesRecord (event_kind has_type entries_of is_single) counts_all order attrs base h count used entries frames r entries' frames
decodes_entries has_type entries_of is_single counts_all order attrs base h count used entries entries' frames own within has few (Ok added) adds = record {
  own = own;
  own_frames = [];
  adds = (has, refl);
  count_is = adds.0;
  frames_count_is = adds.1;
  written = adds.3;
  frames_written = no_entries used frames;
  fits = λ page. (let most = within page in (adds.2 page, omega (arith, most)));
  few = (few, omega arith);
}
decodes_entries has_type entries_of is_single counts_all order attrs base h count used entries entries' frames own within has few (Err needed) exceeds = record {
  in_page = exceeds.0;
  own = own;
  own_frames = [];
  adds = (has, refl);
  exceeds = (exceeds.1, exceeds.2, exceeds.3);
  unchanged = exceeds.4;
  frames_unchanged = refl;
}

-- the offset of a record
offset_of_view : (place : RecordPlace) (r : PerfFileRecord) → (record_view_of place r).offset ≡ place.offset
offset_of_view place (EventRecord index event) = refl
offset_of_view place (UserRecord user) = refl

module _ (order : Endianness) (attrs : List Attribute) (place : RecordPlace) (r : PerfFileRecord) (parts : SampleParts) (has : HasParts order attrs (record_view_of place r) parts) (body : SampleBody) (is : IsBody parts.format (bytes_of parts.body) body) (wants : Bool) (used : ℕ) where
  abbrev h : RecordView
  h = record_view_of place r

  abbrev own : List FrameEntry
  own = frames_of_body wants body

  -- the sample of these parts
  pub sample_of_parts : (count : ℕ) (s : Sample) → count ≡ saturated (length own)
      → s ≡ sample_of (record { offset = place.offset; attr_index = parts.attr_index; misc = parts.misc; frames_start = used; frames_count = count }) parts.format body → IsSampleOf order attrs wants used h s own
  sample_of_parts count s counted made = record {
    format = parts.format;
    format_is = has.format_is;
    body = body;
    body_is = subst (λ b. IsBody parts.format b body) has.body_is is;
    frames_are = refl;
    sample_is = made ∙ (λ i. sample_of (record { offset = sym (offset_of_view place r) i; attr_index = has.attr_index_is i; misc = has.misc_is i; frames_start = used; frames_count = counted i }) parts.format body);
  }

  -- a record and its sample
  pub writes_sample : (counts_all : Bool) (base index frames_count count : ℕ) (samples samples' : List Sample) (frames frames' : List FrameEntry) (s : Sample) → wants ≡ wants_in counts_all (length frames) → (counts_all ≡ false → index < length samples)
      → AddsFrames own counts_all used frames (Ok frames_count) frames' → count ≡ saturated frames_count → s ≡ sample_of (record { offset = place.offset; attr_index = parts.attr_index; misc = parts.misc; frames_start = used; frames_count = count }) parts.format body
      → samples' ≡ with_entries_at index (s ∷ []) samples → WritesRecord sample_kind counts_all order attrs base h index used samples frames (record { entries = 1; frames = frames_count }) samples' frames'
  writes_sample counts_all base index frames_count count samples samples' frames frames' s same_wants free writes counted made written =
      let sample = sample_of_parts count s (counted ∙ ap saturated writes.0) made in
      let adds = subst (λ w. AddsOf order attrs w used h (s ∷ []) own) same_wants sample in
      let few = (adds_within order attrs (wants_in counts_all (length frames)) used h (s ∷ []) own adds).1 in
      record {
        own = s ∷ [];
        own_frames = own;
        adds = adds;
        count_is = refl;
        frames_count_is = writes.0;
        written = written;
        frames_written = writes.2;
        fits = λ page. (let less = free page in (omega (arith, less), writes.1 page));
        few = (omega arith, omega (arith, few));
      }

  -- a sample whose frames don't fit
  pub exceeds_frames : (counts_all : Bool) (base index frames_count : ℕ) (samples : List Sample) (frames frames' : List FrameEntry) → wants ≡ wants_in counts_all (length frames) → AddsFrames own counts_all used frames (Err frames_count) frames'
      → ExceedsArrays sample_kind counts_all order attrs base h index used samples frames (record { entries = 0; frames = frames_count }) samples frames'
  exceeds_frames counts_all base index frames_count samples frames frames' same_wants exceeds =
      let sample = sample_of_parts (saturated (length own)) (sample_of (record { offset = place.offset; attr_index = parts.attr_index; misc = parts.misc; frames_start = used; frames_count = saturated (length own) }) parts.format body) refl refl in
      record {
        in_page = exceeds.0;
        own = sample_of (record { offset = place.offset; attr_index = parts.attr_index; misc = parts.misc; frames_start = used; frames_count = saturated (length own) }) parts.format body ∷ [];
        own_frames = own;
        adds = subst (λ w. IsSampleOf order attrs w used h (sample_of (record { offset = place.offset; attr_index = parts.attr_index; misc = parts.misc; frames_start = used; frames_count = saturated (length own) }) parts.format body) own) (same_wants ∙ ap (λ b. b || wants_frames (length frames)) exceeds.0) sample;
        exceeds = (refl, exceeds.1, exceeds.2);
        unchanged = refl;
        frames_unchanged = exceeds.3;
      }
