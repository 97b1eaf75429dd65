-- The steps of a call of `PerfRecordIter::next_record`: reading a raw record, and processing a record.
use Rattle.std.specs.Prelude.{◌≡◌, ◌≢◌, ℕ, ◌+◌, ◌^◌, ◌<◌, ◌≤◌, ◌==◌, ◌⊎◌, List, [], ◌++◌, length, drop, if◌then◌else◌, Option, None, Some, Result, Ok, Err, vec_capacity}
use Rattle.perfdata_sources.specs.Source.{State, Consumed}
use Rattle.perfdata_sources.specs.declared.event.record_header.PerfEventHeader.{PerfEventHeader}
use Rattle.perfdata_sections.specs.declared.error.Error.{Error}
use Rattle.perfdata_sections.specs.declared.error.Error.TheVariants as error
use Rattle.perfdata_sections.specs.RecordTypes.{header_attr, finished_round, header_feature}
use Rattle.linux_perf_data.specs.declared.records.iter.PerfRecordIter.{PerfRecordIter}
use Rattle.linux_perf_data.specs.declared.records.iter.IdentifiedRecord.{IdentifiedRecord}
use Rattle.linux_perf_data.specs.declared.perf_file.PerfFile.{PerfFile}
use Rattle.linux_perf_data.specs.Attribute.{Attribute, HoldsAttribute}
use Rattle.linux_perf_data.specs.RecordInput.{HasNoPendingHeader}
use Rattle.linux_perf_data.specs.LateMetadata.{HasValidMetadata, IsMetadataType, UpdatesPerfFile, SamePerfFile, RejectsMetadata, SameAttributeCount}
use Rattle.linux_perf_data.specs.AttributeLookup.{Represents}
use Rattle.linux_perf_data.specs.Layout.{IsRecord, record_type_of, misc_of, attributes_in_record}
use Rattle.linux_perf_data.specs.RecordFraming.{ExceedsCapacity}
use Rattle.linux_perf_data.specs.steps.RecordFraming.{RecordErrorAt, RecordTruncatedAt}
use Rattle.linux_perf_data.specs.steps.RecordViews.{IdentifiesRecord}
use Rattle.linux_perf_data.specs.Iter.{iter_source_state, section_size_of, SameInput}

module _ {R : Type 0} (state : R → State) where
  -- One raw record was consumed from the source. Its body is buffered unless it is a marker.
  pub record RawRecordRead (old : PerfRecordIter R) (header : PerfEventHeader) (new : PerfRecordIter R) : Type 0 where
    pub raw_record : List ℕ
    pub consumes : Consumed (iter_source_state state old) raw_record (iter_source_state state new)
    pub is_record : IsRecord old.endian raw_record
    pub record_type : record_type_of old.endian raw_record ≡ header.type_
    pub misc : misc_of old.endian raw_record ≡ header.misc
    pub offset : new.offset ≡ old.offset + length raw_record
    pub offset_fits : new.offset < 2 ^ 64
    pub round : new.round ≡ (if header.type_ == finished_round then old.round + 1 else old.round)
    pub buffered_body : header.type_ ≢ finished_round → new.body.items ≡ drop 8 raw_record
    pub empty_if_marker : header.type_ ≡ finished_round → new.body.items ≡ []
    pub same_input : SameInput state old new
    pub attribute_lookup : new.attribute_lookup ≡ old.attribute_lookup
    pub stage : new.stage ≡ old.stage
    pub no_pending_header : HasNoPendingHeader new.input

  -- Reading a raw record failed. The iterator's offset is unchanged.
  pub record RawRecordError (old : PerfRecordIter R) (e : Error) (new : PerfRecordIter R) : Type 0 where
    pub error : RecordErrorAt old.endian (iter_source_state state old) (section_size_of state old) old.offset e (length new.body.items)
        (iter_source_state state new)
    pub offset : new.offset ≡ old.offset
    pub round : new.round ≡ old.round
    pub same_input : SameInput state old new
    pub attribute_lookup : new.attribute_lookup ≡ old.attribute_lookup
    pub no_pending_header : HasNoPendingHeader new.input

  -- A raw record is truncated in a pipe. The iterator's offset is unchanged.
  pub record RawRecordTruncated (old new : PerfRecordIter R) : Type 0 where
    pub in_pipe : section_size_of state old ≡ None
    pub is_truncated : RecordTruncatedAt old.endian (iter_source_state state old) old.offset (length new.body.items) (iter_source_state state new)
    pub offset : new.offset ≡ old.offset
    pub round : new.round ≡ old.round
    pub same_input : SameInput state old new
    pub attribute_lookup : new.attribute_lookup ≡ old.attribute_lookup
    pub no_pending_header : HasNoPendingHeader new.input

  -- The body of the raw record is larger than the buffer's capacity.
  pub record RawRecordExceedsBuffer (old new : PerfRecordIter R) : Type 0 where
    pub consumed_bytes : List ℕ
    pub consumes : Consumed (iter_source_state state old) consumed_bytes (iter_source_state state new)
    pub exceeds : ExceedsCapacity old.endian (vec_capacity old.body) consumed_bytes

  abbrev pub ReadsRawRecord : PerfRecordIter R → Result (Option PerfEventHeader) Error → PerfRecordIter R → Type 0
  ReadsRawRecord old (Ok (Some header)) new = RawRecordRead old header new
  ReadsRawRecord old (Ok None) new = RawRecordTruncated old new
  ReadsRawRecord old (Err e) new = RawRecordError old e new

  -- The iterators are equal except for the attribute lookup and the stage.
  pub record SameButLookup (piece new : PerfRecordIter R) : Type 0 where
    pub source : new.source ≡ piece.source
    pub same_endian : new.endian ≡ piece.endian
    pub body : new.body.items ≡ piece.body.items
    pub offset : new.offset ≡ piece.offset
    pub round : new.round ≡ piece.round
    pub input : new.input ≡ piece.input

  -- The record in the body buffer was identified, and its metadata was applied.
  pub record RecordProcessed (old : PerfRecordIter R) (file : PerfFile) (offset round : ℕ) (header : PerfEventHeader) (found : IdentifiedRecord)
      (new : PerfRecordIter R) (file' : PerfFile) : Type 0 where
    pub same_but_lookup : SameButLookup old new
    pub stage : new.stage ≡ old.stage
    pub record_identified : IdentifiesRecord old.attribute_lookup offset round header old.body.items found new.attribute_lookup
    pub represents : (attrs : List Attribute) → Represents old.endian old.attribute_lookup attrs
        → Represents old.endian new.attribute_lookup (attrs ++ attributes_in_record old.endian (section_size_of state old) header.type_ old.body.items)
    pub valid_attribute : section_size_of state old ≡ None → header.type_ ≡ header_attr → HoldsAttribute old.endian old.body.items
    pub valid_feature : section_size_of state old ≡ None → header.type_ ≡ header_feature → 8 ≤ length old.body.items
    pub same_attribute_count : section_size_of state old ≡ None → IsMetadataType header.type_ → SameAttributeCount old.endian old.attribute_lookup file
    pub file_updates : UpdatesPerfFile old.endian (section_size_of state old) header.type_ old.body.items file file'
    pub file_unchanged_otherwise : (section_size_of state old ≢ None) ⊎ (¬ IsMetadataType header.type_) → file' ≡ file

  -- The record was rejected, and the contents of the `PerfFile` are unchanged.
  pub record RecordRejected (old : PerfRecordIter R) (file : PerfFile) (header : PerfEventHeader) (e : Error) (new : PerfRecordIter R)
      (file' : PerfFile) : Type 0 where
    pub same_but_lookup : SameButLookup old new
    pub in_pipe : section_size_of state old ≡ None
    pub metadata_type : IsMetadataType header.type_
    pub same_file : SamePerfFile file file'
    pub not_failed : e ≢ error.Failed
    pub if_out_of_memory : e ≡ error.Memory → SameAttributeCount old.endian old.attribute_lookup file × HasValidMetadata old.endian header.type_ old.body.items
    pub cause : e ≢ error.Memory → RejectsMetadata old.endian old.attribute_lookup file header.type_ old.body.items e

  abbrev pub ProcessesRecord : PerfRecordIter R → PerfFile → ℕ → ℕ → PerfEventHeader → Result IdentifiedRecord Error → PerfRecordIter R → PerfFile → Type 0
  ProcessesRecord old file offset round header (Ok found) new file' = RecordProcessed old file offset round header found new file'
  ProcessesRecord old file offset round header (Err e) new file' = RecordRejected old file header e new file'
