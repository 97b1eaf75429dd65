-- Who wrote a kernel record, when and where: by the first words of a sample, and by the sample_id fields at the end of another record.
use Rattle.std.specs.Prelude.{◌≡◌, ◌≢◌, ℕ, ◌≤◌, ◌⊎◌, true, false, List, length, None, Result, Ok, Err}
use Rattle.std.specs.IoError.{error_kind}
use Rattle.std.specs.declared.io.Error.{Error}
use Rattle.std.specs.declared.io.ErrorKind.{ErrorKind}
use Rattle.perfdata_sources.specs.Raw.{bytes_of}
use Rattle.perfdata_sources.specs.Endian.{number_in}
use Rattle.perfdata_base.specs.declared.event.raw_event_record.RawEventRecord.{RawEventRecord}
use Rattle.perfdata_events.specs.Format.{Outcome, encodes, fails, IsTruncated, both}
use Rattle.perfdata_events.specs.EventFormat.{trailing_size, trailing}
use Rattle.perfdata_events.specs.Sample.{origin_words, event_words}
use Rattle.perfdata_events.specs.SampleId.{sample_id}
use Rattle.perfdata_events.specs.declared.format.EventFormat.{EventFormat}
use Rattle.perfdata_events.specs.declared.sample_id.SampleId.{SampleId}
use Rattle.perfdata_events.specs.declared.sample.words.OriginFields.{OriginFields}
use Rattle.perfdata_events.specs.declared.sample.words.EventFields.{EventFields}

-- No field is selected.
abbrev pub no_sample_id : SampleId
no_sample_id = record { task = None; timestamp = None; id = None; stream_id = None; cpu = None; identifier = None }

abbrev pub id_of_words : OriginFields → EventFields → SampleId
id_of_words o e = record { task = o.task; timestamp = o.timestamp; id = e.id; stream_id = e.stream_id; cpu = e.cpu; identifier = o.identifier }

module _ (format : EventFormat) where
  -- The first eight words of a sample.
  abbrev pub sample_header : List ℕ → Outcome (OriginFields × EventFields) → Type 0
  sample_header = both (origin_words (number_in format.endian) format.sample_format.0) (λ _. event_words (number_in format.endian) format.sample_format.0)

  pub record IsLeadingId (body : List ℕ) (id : SampleId) : Type 0 where
    pub origin : OriginFields
    pub event : EventFields
    pub rest : List ℕ
    pub header_bytes_is : sample_header body (encodes (origin, event) rest)
    pub id_is : id ≡ id_of_words origin event

  abbrev pub ReadsHead : List ℕ → Result SampleId Error → Type 0
  ReadsHead body (Ok id) = IsLeadingId body id
  ReadsHead body (Err e) = sample_header body (fails (error_kind e))

  -- The sample_id fields end the body.
  pub record IsTrailingId (body : List ℕ) (id : SampleId) : Type 0 where
    pub enough : trailing_size format ≤ length body
    pub rest : List ℕ
    pub id_is : sample_id (number_in format.endian) format.sample_format.0 (trailing format body) (encodes id rest)

  module _ (raw : RawEventRecord) where
    abbrev pub IsSampleIdOf : SampleId → Type 0
    IsSampleIdOf id =
        ((raw.record_type.0 ≡ 9) × IsLeadingId (bytes_of raw.body) id)
        ⊎ (((raw.record_type.0 ≢ 9) × (format.sample_id_all ≡ true) × IsTrailingId (bytes_of raw.body) id)
        ⊎ ((raw.record_type.0 ≢ 9) × (format.sample_id_all ≡ false) × (id ≡ no_sample_id)))

    -- The words or the fields are truncated.
    abbrev pub SampleIdFails : ErrorKind → Type 0
    SampleIdFails kind =
        ((raw.record_type.0 ≡ 9) × sample_header (bytes_of raw.body) (fails kind))
        ⊎ ((raw.record_type.0 ≢ 9) × (format.sample_id_all ≡ true) × IsTruncated (trailing_size format) (bytes_of raw.body) kind)
