-- The state of a `PerfRecordIter`, its remaining records, and the contract of one call.
use Rattle.std.specs.Prelude.{◌≡◌, ◌≢◌, ℕ, ◌+◌, ◌^◌, ◌<◌, ◌≤◌, ◌⊎◌, List, [], ◌∷◌, ◌++◌, length, drop, Option, None, Some, Result, Ok, Err, IfSome, IfErr, vec_capacity}
use Rattle.perfdata_sources.specs.Source.{State, Consumed, SourcePaused}
use Rattle.perfdata_sources.specs.Endian.{number_in}
use Rattle.perfdata_sections.specs.declared.error.Error.{Error}
use Rattle.perfdata_sections.specs.declared.error.Error.TheVariants as error
use Rattle.perfdata_records.specs.declared.record.PerfFileRecord.{PerfFileRecord}
use Rattle.perfdata_sections.specs.Error.{IsInvalidInput}
use Rattle.perfdata_sections.specs.EventDesc.{IsEventDescError}
use Rattle.perfdata_sections.specs.RecordTypes.{header_attr}
use Rattle.linux_perf_data.specs.declared.records.iter.PerfRecordIter.{PerfRecordIter}
use Rattle.linux_perf_data.specs.declared.records.iter.RecordPlace.{RecordPlace}
use Rattle.linux_perf_data.specs.declared.records.iter.IdentifiedRecord.{IdentifiedRecord}
use Rattle.linux_perf_data.specs.declared.records.iter.Stage.TheVariants.{Running, Failed, Ended}
use Rattle.linux_perf_data.specs.declared.perf_file.PerfFile.{PerfFile}
use Rattle.linux_perf_data.specs.Attribute.{Attribute, HoldsAttribute}
use Rattle.linux_perf_data.specs.RecordInput.{HasNoPendingHeader, section_size_in, input_source_state}
use Rattle.linux_perf_data.specs.LateMetadata.{HasValidMetadata, IsMetadataType, UpdatesPerfFile, PassesEarlierChecks, SamePerfFile, SameAttributeCount}
use Rattle.linux_perf_data.specs.FeatureNumbers.{event_desc}
use Rattle.linux_perf_data.specs.PerfFile.{descriptions_of_file, feature_data_in_file}
use Rattle.linux_perf_data.specs.AttributeLookup.{Represents}
use Rattle.linux_perf_data.specs.Layout.{SectionSize, MayStartAt, IsEnd, IsRecord, ConsistsOfMarkers, record_type_of, RecordView, LayoutEnd, ends_complete, ends_with_error, LayoutError, RemainingRecords, attributes_in_record}
use Rattle.linux_perf_data.specs.Pauses.{PausesOnlyAtEndOrError}
use Rattle.linux_perf_data.specs.RecordFraming.{ExceedsCapacity, StaysWithinRecord, IsTruncatedAfterHeader, IsErrorFor, ShownBy, SourceErrorInRecord, MayNeedMemory}
use Rattle.linux_perf_data.specs.RecordViews.{record_view_of, record_view_with}

module _ {R : Type 0} (state : R → State) where
  -- The source as the iterator sees it. In a pipe, the pending header precedes the remaining bytes.
  abbrev pub iter_source_state : PerfRecordIter R → State
  iter_source_state it = input_source_state it.input (state it.source)

  -- The size of the section that contains the records; `None` in a pipe.
  abbrev pub section_size_of : PerfRecordIter R → SectionSize
  section_size_of it = section_size_in it.input

  -- The byte order and the section size, which no call changes.
  pub record SameInput (old new : PerfRecordIter R) : Type 0 where
    pub same_endian : new.endian ≡ old.endian
    pub section_size : section_size_of new ≡ section_size_of old

  -- The records that the iterator still returns and how its layout then ends, if the attributes before are `attrs`.
  abbrev pub HasRemainingRecords : PerfRecordIter R → List Attribute → List RecordView → LayoutEnd → Type 0
  HasRemainingRecords it attrs records end =
      IfSome (iter_source_state it).bytes (λ bytes. RemainingRecords it.endian bytes (section_size_of it) it.offset it.round attrs records end)

  -- A record was returned.
  pub record ReturnsRecord (old : PerfRecordIter R) (file : PerfFile) (h : RecordView) (new : PerfRecordIter R) (file' : PerfFile) : Type 0 where
    pub was_running : old.stage ≡ Running
    pub stage_running : new.stage ≡ Running
    pub same_input : SameInput old new
    -- The lookup represents the attributes before, and those of this record.
    pub represents : (attrs : List Attribute) → Represents old.endian old.attribute_lookup attrs
        → Represents new.endian new.attribute_lookup (attrs ++ attributes_in_record old.endian (section_size_of old) h.record_type h.body)
    -- remaining(before) = record :: remaining(after)
    pub extends_remaining : (attrs : List Attribute) → Represents old.endian old.attribute_lookup attrs → (records : List RecordView) (end : LayoutEnd)
        → HasRemainingRecords new (attrs ++ attributes_in_record old.endian (section_size_of old) h.record_type h.body) records end
        → HasRemainingRecords old attrs (h ∷ records) end
    -- In a pipe, if the record contains metadata, the attribute count of the `PerfFile` matches the input's.
    pub same_attribute_count : section_size_of old ≡ None → IsMetadataType h.record_type → SameAttributeCount old.endian old.attribute_lookup file
    -- The `PerfFile` contains the metadata of this record. It is untouched in a file, and by a record without metadata.
    pub file_updates : UpdatesPerfFile old.endian (section_size_of old) h.record_type h.body file file'
    pub file_unchanged_otherwise : (section_size_of old ≢ None) ⊎ (¬ IsMetadataType h.record_type) → file' ≡ file
    -- The buffer contains the record's body only. All bytes up to the record's end were consumed from the source, and none after
    -- it.
    pub buffered_body : new.body.items ≡ h.body
    pub markers : List ℕ
    pub valid_markers : ConsistsOfMarkers old.endian (section_size_of old) old.offset markers
    -- The round counts the markers.
    pub record_round : h.round ≡ old.round + length valid_markers.raw_records
    pub round : new.round ≡ h.round
    pub header_bytes : List ℕ
    pub header_len : length header_bytes ≡ 8
    pub record_offset : h.offset ≡ old.offset + length markers
    pub may_start : MayStartAt (section_size_of old) h.offset
    pub consumes : Consumed (iter_source_state old) (markers ++ (header_bytes ++ h.body)) (iter_source_state new)
    -- No header is pending, so the iterator's remaining bytes are those of its source.
    pub no_pending_header : HasNoPendingHeader new.input
    pub offset : new.offset ≡ h.offset + 8 + length h.body
    pub offset_fits : new.offset < 2 ^ 64

  -- The source, the body buffer and the stage are unchanged.
  pub record IsUntouched (old new : PerfRecordIter R) : Type 0 where
    pub source : new.source ≡ old.source
    pub body : new.body ≡ old.body
    pub stage : new.stage ≡ old.stage

  -- A running iterator reached its end. Either no records remain and the layout is complete, or, in a pipe, the source paused
  -- before its end. The call skipped the markers. In a pipe, it then consumed `consumed_bytes` of a truncated record. In a file,
  -- the section ends after the markers, and the buffer is empty.
  pub record ReachesEnd (old new : PerfRecordIter R) : Type 0 where
    pub no_records_left : ((attrs : List Attribute) → Represents old.endian old.attribute_lookup attrs → HasRemainingRecords old attrs [] ends_complete)
        ⊎ ((section_size_of old ≡ None) × SourcePaused (iter_source_state old) (iter_source_state new) × ((iter_source_state new).bytes ≢ Some []))
    pub markers : List ℕ
    pub valid_markers : ConsistsOfMarkers old.endian (section_size_of old) old.offset markers
    pub consumed_bytes : List ℕ
    pub offset : new.offset ≡ old.offset + length markers
    pub round : new.round ≡ old.round + length valid_markers.raw_records
    pub consumes : Consumed (iter_source_state old) (markers ++ consumed_bytes) (iter_source_state new)
    pub section_end : section_size_of old ≢ None → (consumed_bytes ≡ []) × (new.body.items ≡ [])
    -- In a pipe, no bytes remain or the source paused.
    pub pipe_exhausted : section_size_of old ≡ None → ((iter_source_state new).bytes ≡ Some []) ⊎ SourcePaused (iter_source_state old) (iter_source_state new)
    pub buffer_bound : length new.body.items ≤ length (drop 8 consumed_bytes) + 4096
    pub at_end : IsEnd old.endian (section_size_of old) new.offset consumed_bytes
    pub section_size : section_size_of new ≡ section_size_of old
    pub no_pending_header : HasNoPendingHeader new.input

  -- The call returned the end.
  pub record ReturnsEnd (old : PerfRecordIter R) (file : PerfFile) (new : PerfRecordIter R) (file' : PerfFile) : Type 0 where
    pub stage_ended : new.stage ≡ Ended
    pub not_failed : old.stage ≢ Failed
    pub if_ended : old.stage ≡ Ended → IsUntouched old new
    pub if_running : old.stage ≡ Running → ReachesEnd old new
    pub file_unchanged : file' ≡ file

  -- The metadata record in `consumed` is complete, but the `PerfFile` belongs to another input. Either its attribute count differs
  -- from the input's, or the count matches and it has an EVENT_DESC that can't be read.
  pub record IsMismatchedPerfFile (old : PerfRecordIter R) (file : PerfFile) (consumed : List ℕ) (e : Error) : Type 0 where
    pub in_pipe : section_size_of old ≡ None
    pub is_record : IsRecord old.endian consumed
    pub metadata_type : IsMetadataType (record_type_of old.endian consumed)
    pub cause : (IsInvalidInput e × ((attrs : List Attribute) → Represents old.endian old.attribute_lookup attrs
        → length (descriptions_of_file file) ≢ length attrs))
        ⊎ (SameAttributeCount old.endian old.attribute_lookup file × (record_type_of old.endian consumed ≡ header_attr)
        × HoldsAttribute old.endian (drop 8 consumed)
        × ((bytes : List ℕ) × (feature_data_in_file file event_desc ≡ Some bytes) × IsEventDescError (number_in old.endian) e bytes))

  -- The cause of an error. The consumed bytes show a layout error whose earlier checks the `PerfFile` passes, or the source has an
  -- error. Or the `PerfFile` belongs to another input, and the record is complete and ends below 2^64.
  abbrev pub IsErrorCause : PerfRecordIter R → PerfFile → List ℕ → List ℕ → Error → PerfRecordIter R → Type 0
  IsErrorCause old file markers consumed e new =
      ShownBy (λ bytes. (f : LayoutError) × ((attrs : List Attribute) → Represents old.endian old.attribute_lookup attrs
      → RemainingRecords old.endian bytes (section_size_of old) old.offset old.round attrs [] (ends_with_error f))
      × PassesEarlierChecks old.endian old.attribute_lookup file f × IsErrorFor f e) (markers ++ consumed) (iter_source_state new)
      ⊎ (SourceErrorInRecord old.endian (section_size_of old) (iter_source_state old) consumed e (iter_source_state new)
      ⊎ (IsMismatchedPerfFile old file consumed e × (new.offset + length consumed < 2 ^ 64)))

  -- Memory ran out for a record with the bytes `consumed`. Either its body or aux data wasn't read in full, or, in a pipe, its
  -- metadata is complete and valid, and the attribute count of the `PerfFile` matches the input's.
  abbrev pub NeedsMemoryFor : PerfRecordIter R → PerfFile → List ℕ → Type 0
  NeedsMemoryFor old file consumed = MayNeedMemory old.endian consumed × (IsTruncatedAfterHeader old.endian consumed
      ⊎ ((section_size_of old ≡ None) × IsRecord old.endian consumed × SameAttributeCount old.endian old.attribute_lookup file
      × HasValidMetadata old.endian (record_type_of old.endian consumed) (drop 8 consumed)))

  -- A running iterator failed. It skipped the markers. The record after them starts where one may. `consumed_bytes` of it were
  -- consumed, and no byte after it.
  pub record StopsAtError (old : PerfRecordIter R) (file : PerfFile) (e : Error) (new : PerfRecordIter R) : Type 0 where
    pub markers : List ℕ
    pub valid_markers : ConsistsOfMarkers old.endian (section_size_of old) old.offset markers
    pub consumed_bytes : List ℕ
    pub offset : new.offset ≡ old.offset + length markers
    pub round : new.round ≡ old.round + length valid_markers.raw_records
    pub may_start : MayStartAt (section_size_of old) new.offset
    pub consumes : Consumed (iter_source_state old) (markers ++ consumed_bytes) (iter_source_state new)
    pub no_pending_header : HasNoPendingHeader new.input
    pub within_record : StaysWithinRecord old.endian consumed_bytes
    pub buffer_bound : length new.body.items ≤ length (drop 8 consumed_bytes) + 4096
    pub if_out_of_memory : e ≡ error.Memory → NeedsMemoryFor old file consumed_bytes
    pub cause : e ≢ error.Memory → IsErrorCause old file markers consumed_bytes e new

  -- The body of the record after the markers is larger than the buffer's capacity.
  pub record NeedsLargerBuffer (old new : PerfRecordIter R) : Type 0 where
    pub markers : List ℕ
    pub valid_markers : ConsistsOfMarkers old.endian (section_size_of old) old.offset markers
    pub consumed_bytes : List ℕ
    pub consumes : Consumed (iter_source_state old) (markers ++ consumed_bytes) (iter_source_state new)
    pub exceeds : ExceedsCapacity old.endian (vec_capacity old.body) consumed_bytes

  -- In a pipe, the buffer contains the body of a metadata record.
  abbrev pub BuffersMetadata : PerfRecordIter R → PerfRecordIter R → Type 0
  BuffersMetadata old new = (section_size_of old ≡ None)
      × ((raw_record : List ℕ) × IsRecord old.endian raw_record × IsMetadataType (record_type_of old.endian raw_record) × (new.body.items ≡ drop 8 raw_record))

  -- In a pipe, the call consumed markers and then a whole metadata record.
  pub record ConsumesMetadata (old new : PerfRecordIter R) : Type 0 where
    pub in_pipe : section_size_of old ≡ None
    pub markers : List ℕ
    pub valid_markers : ConsistsOfMarkers old.endian (section_size_of old) old.offset markers
    pub raw_record : List ℕ
    pub is_record : IsRecord old.endian raw_record
    pub metadata_type : IsMetadataType (record_type_of old.endian raw_record)
    pub consumes : Consumed (iter_source_state old) (markers ++ raw_record) (iter_source_state new)

  -- Memory runs out only where the buffer has to grow, or for metadata.
  abbrev pub MemoryOnlyToGrow : {A : Type 0} → PerfRecordIter R → Result A Error → PerfRecordIter R → Type 0
  MemoryOnlyToGrow old r new = IfErr r (λ e. e ≡ error.Memory → NeedsLargerBuffer old new ⊎ BuffersMetadata old new)

  -- The call returned an error, and the contents of the `PerfFile` are unchanged.
  pub record ReturnsError (old : PerfRecordIter R) (file : PerfFile) (e : Error) (new : PerfRecordIter R) (file' : PerfFile) : Type 0 where
    pub stage_failed : new.stage ≡ Failed
    pub not_ended : old.stage ≢ Ended
    pub if_failed : old.stage ≡ Failed → (e ≡ error.Failed) × IsUntouched old new
    pub only_if_failed : e ≡ error.Failed → old.stage ≡ Failed
    pub if_running : old.stage ≡ Running → StopsAtError old file e new
    pub same_file : SamePerfFile file file'

  abbrev pub Advances : PerfRecordIter R → PerfFile → Result (Option IdentifiedRecord) Error → PerfRecordIter R → PerfFile → Type 0
  Advances old file (Ok (Some f)) new file' = ReturnsRecord old file (record_view_with new.attribute_lookup f new.endian new.body.items) new file'
  Advances old file (Ok None) new file' = ReturnsEnd old file new file'
  Advances old file (Err e) new file' = ReturnsError old file e new file'

  -- The result of a call.
  abbrev pub ReturnsNext : PerfRecordIter R → PerfFile → Result (Option (RecordPlace × PerfFileRecord)) Error → PerfRecordIter R → PerfFile → Type 0
  ReturnsNext old file (Ok (Some r)) new file' = ReturnsRecord old file (record_view_of r.0 r.1) new file'
  ReturnsNext old file (Ok None) new file' = ReturnsEnd old file new file'
  ReturnsNext old file (Err e) new file' = ReturnsError old file e new file'

  -- The result of a call, and the iterator after the loan of the record ends. The iterator keeps its source, reads no further
  -- after an empty read, and needs memory only to grow its buffer and for metadata.
  abbrev pub NextRecord : (R → ℕ) → PerfRecordIter R → PerfFile → Result (Option (RecordPlace × PerfFileRecord)) Error → PerfRecordIter R → PerfFile → Type 0
  NextRecord loan old file r new file' = ReturnsNext old file r new file' × (loan new.source ≡ loan old.source)
      × PausesOnlyAtEndOrError (state old.source) r (state new.source) × MemoryOnlyToGrow old r new
