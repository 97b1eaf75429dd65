-- The samples of records and their frames.
use Rattle.std.specs.Prelude.{◌≡◌, ℕ, ◌+◌, ◌-◌, ◌^◌, ◌<◌, ◌==◌, Bool, true, false, List, [], ◌∷◌, length, min, slice_get, if◌then◌else◌, Option, None, Some}
use Rattle.std.specs.Option.{option_map}
use Rattle.perfdata_sources.specs.Raw.{bytes_of}
use Rattle.perfdata_sources.specs.declared.endian.Endianness.{Endianness}
use Rattle.linux_perf_data.specs.Attribute.{Attribute, EventRef}
use Rattle.linux_perf_data.specs.Layout.{RecordView}
use Rattle.linux_perf_data.specs.RecordEntries.{attr_index_or_zero}
use Rattle.perfdata_events.specs.CallChain.{chain_values_of}
use Rattle.perfdata_events.specs.EventFormat.{event_format_of}
use Rattle.perfdata_events.specs.declared.format.EventFormat.{EventFormat}
use Rattle.linux_perf_data.specs.declared.in_memory.position.RecordPosition.{RecordPosition}
use Rattle.perfdata_identifiers.specs.declared.place.parse_info.RecordParseInfo.{RecordParseInfo}
use Rattle.perfdata_arrays.specs.Bodies.{IsBody}
use Rattle.perfdata_arrays.specs.DecodedPages.{ReadsDecodedPage, ReadsDecodedPipe}
use Rattle.perfdata_arrays.specs.Decoding.{EntryKind}
use Rattle.perfdata_arrays.specs.declared.pages.PageResult.{PageResult}
use Rattle.perfdata_arrays.specs.Samples.{chain_entries, sample_of}
use Rattle.perfdata_arrays.specs.declared.samples.body.SampleBody.{SampleBody}
use Rattle.perfdata_arrays.specs.declared.samples.body.SampleBody.TheVariants.{Complete, Words, Nothing}
use Rattle.perfdata_arrays.specs.declared.samples.frame.FrameEntry.{FrameEntry}
use Rattle.perfdata_arrays.specs.declared.samples.records.SampleParts.{SampleParts}
use Rattle.perfdata_arrays.specs.declared.samples.sample.Sample.{Sample}
use Rattle.perfdata_arrays.specs.declared.samples.sample.SampleEnvelope.{SampleEnvelope}

-- ---- a sample

-- a number, or the greatest of 32 bits if it is greater
abbrev pub saturated : ℕ → ℕ
saturated n = min n (2 ^ 32 - 1)

-- the frames of the call chain, if there is one and frames are wanted
abbrev pub frames_of_body : Bool → SampleBody → List FrameEntry
frames_of_body true (Complete words (Some chain)) = chain_entries (chain_values_of chain)
frames_of_body true (Complete words None) = []
frames_of_body true (Words words error) = []
frames_of_body true Nothing = []
frames_of_body false body = []

module _ (order : Endianness) (attrs : List Attribute) where
  -- the format of the records of an event
  abbrev pub format_of_event : Option EventRef → Option EventFormat
  format_of_event None = None
  format_of_event (Some event) = option_map (λ a. event_format_of a.attr order) (slice_get attrs event.index)

  -- The format of the records of the attribute with this index, if there is such an attribute.
  abbrev pub IsFormatAt : ℕ → Option EventFormat → Type 0
  IsFormatAt index format = (parse_info : RecordParseInfo) → format_of_event (Some (record { index = index; parse_info = parse_info })) ≡ format

  -- the format of a sample (type 9); `None` for another record
  abbrev pub sample_format_of : RecordView → Option EventFormat
  sample_format_of h = if h.record_type == 9 then format_of_event h.event else None

  -- what a sample has beside the fields of its body
  abbrev pub envelope_of : RecordView → ℕ → ℕ → SampleEnvelope
  envelope_of h frames_start frames_count = record {
    offset = h.offset;
    attr_index = saturated (attr_index_or_zero h.event);
    misc = h.misc;
    frames_start = frames_start;
    frames_count = saturated frames_count;
  }

  -- The record is a sample, decoded by the format of its attribute, with these frames. Their entries are after those of other frames.
  pub record IsSampleOf (wants_frames : Bool) (frames_start : ℕ) (h : RecordView) (sample : Sample) (frames : List FrameEntry) : Type 0 where
    pub format : EventFormat
    pub format_is : sample_format_of h ≡ Some format
    pub body : SampleBody
    pub body_is : IsBody format h.body body
    pub frames_are : frames ≡ frames_of_body wants_frames body
    pub sample_is : sample ≡ sample_of (envelope_of h frames_start (length frames)) format body

  -- ---- the parts of a sample's record

  pub record HasParts (h : RecordView) (parts : SampleParts) : Type 0 where
    pub format_is : sample_format_of h ≡ Some parts.format
    pub body_is : bytes_of parts.body ≡ h.body
    pub attr_index_is : parts.attr_index ≡ saturated (attr_index_or_zero h.event)
    pub misc_is : parts.misc ≡ h.misc

  abbrev pub ArePartsOf : RecordView → Option SampleParts → Type 0
  ArePartsOf h None = sample_format_of h ≡ None
  ArePartsOf h (Some parts) = HasParts h parts

-- ---- what records add

-- What a record adds to samples and frames.
abbrev pub AddsOf : Endianness → List Attribute → Bool → ℕ → RecordView → List Sample → List FrameEntry → Type 0
AddsOf order attrs wants frames_start h [] frames = (sample_format_of order attrs h ≡ None) × (frames ≡ [])
AddsOf order attrs wants frames_start h (sample ∷ []) frames = IsSampleOf order attrs wants frames_start h sample frames
AddsOf order attrs wants frames_start h (sample ∷ other ∷ more) frames = ⊥

-- a sample whose frames are after this number of other frames
abbrev pub after_frames : ℕ → Sample → Sample
after_frames count sample = record sample { frames_start = count + sample.frames_start }

-- Samples and their frames. If the frames of a sample don't fit, their number is reported.
abbrev pub sample_kind : EntryKind Sample FrameEntry
sample_kind = record {
  Adds = λ wants order attrs base used h samples frames. AddsOf order attrs wants used h samples frames;
  Exceeds = λ capacity frames_capacity count used samples frames needed. (needed.entries ≡ 0) × (needed.frames ≡ length frames)
      × (frames_capacity < used + length frames);
  AlwaysFits = λ frames_capacity. frames_capacity ≡ 0;
  after_frames = after_frames;
}

-- the result for a page of a file
abbrev pub ReadsSamplePage : List ℕ → RecordPosition → List Sample → List FrameEntry → PageResult → RecordPosition → List Sample → List FrameEntry → Type 0
ReadsSamplePage = ReadsDecodedPage sample_kind

-- the result for a pipe
abbrev pub ReadsPipeSamples : List ℕ → List Sample → List FrameEntry → PageResult → List Sample → List FrameEntry → Type 0
ReadsPipeSamples = ReadsDecodedPipe sample_kind
