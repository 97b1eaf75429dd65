-- A step of a `PerfRecordIter`: one raw record is read, and processed unless it is a marker.
use Rattle.std.specs.Prelude.{◌≡◌, ◌≢◌, ℕ, ◌≤◌, ◌⊎◌, false, Option, None, Some, Result, Ok, Err, vec_capacity}
use Rattle.perfdata_sources.specs.Source.{State}
use Rattle.perfdata_sources.specs.declared.event.record_header.PerfEventHeader.{PerfEventHeader}
use Rattle.perfdata_sections.specs.declared.error.Error.{Error}
use Rattle.perfdata_sections.specs.declared.error.Error.TheVariants as error
use Rattle.perfdata_sections.specs.RecordTypes.{finished_round}
use Rattle.linux_perf_data.specs.declared.records.iter.PerfRecordIter.{PerfRecordIter}
use Rattle.linux_perf_data.specs.declared.records.iter.IdentifiedRecord.{IdentifiedRecord}
use Rattle.linux_perf_data.specs.declared.records.iter.IdentifiedItem.{IdentifiedItem}
use Rattle.linux_perf_data.specs.declared.records.iter.IdentifiedItem.TheVariants.{Record, RoundEnd}
use Rattle.linux_perf_data.specs.declared.records.iter.Stage.TheVariants.{Failed, Ended}
use Rattle.linux_perf_data.specs.declared.perf_file.PerfFile.{PerfFile}
use Rattle.linux_perf_data.specs.Layout.{MayStartAt}
use Rattle.linux_perf_data.specs.RecordViews.{record_view_with}
use Rattle.linux_perf_data.specs.Iter.{section_size_of}
use Rattle.linux_perf_data.specs.Items.{ReturnsRoundEnd, ReturnsNextRecord, ReturnsEndHere, ReturnsErrorHere}
use Rattle.linux_perf_data.specs.steps.Iter.{TestsMayStart}
use Rattle.linux_perf_data.specs.steps.IterSteps.{RawRecordRead, RawRecordTruncated, RawRecordError, RawRecordExceedsBuffer, RecordProcessed, RecordRejected}

module _ {R : Type 0} where
  -- The same iterator except for its stage.
  pub record IsStopped (new new' : PerfRecordIter R) : Type 0 where
    pub source : new'.source ≡ new.source
    pub input : new'.input ≡ new.input
    pub body : new'.body ≡ new.body
    pub round : new'.round ≡ new.round

module _ {R : Type 0} (state : R → State) where
  -- A record was read, and then processed: `piece` is the iterator between.
  pub record StepsToRecord (old : PerfRecordIter R) (file : PerfFile) (found : IdentifiedRecord) (new : PerfRecordIter R) (file' : PerfFile) : Type 0 where
    pub may_start : MayStartAt (section_size_of state old) old.offset
    pub header : PerfEventHeader
    pub piece : PerfRecordIter R
    pub raw_record : RawRecordRead state old header piece
    pub no_marker : header.type_ ≢ finished_round
    pub processed : RecordProcessed state piece file old.offset old.round header found new file'

  -- A marker was read. It ends this round.
  pub record StepsOverMarker (old : PerfRecordIter R) (file : PerfFile) (ended : ℕ) (new : PerfRecordIter R) (file' : PerfFile) : Type 0 where
    pub may_start : MayStartAt (section_size_of state old) old.offset
    pub header : PerfEventHeader
    pub raw_record : RawRecordRead state old header new
    pub marker : header.type_ ≡ finished_round
    pub ended_round : ended ≡ old.round
    pub capacity : vec_capacity old.body ≤ vec_capacity new.body
    pub file_unchanged : file' ≡ file

  -- The section ends at the iterator's offset.
  pub record SectionEnds (old new : PerfRecordIter R) : Type 0 where
    pub ends : TestsMayStart (section_size_of state old) old.offset false
    pub stopped : IsStopped old new
    pub offset : new.offset ≡ old.offset

  -- The pipe ends before a raw record or in one.
  pub record PipeEnds (old new : PerfRecordIter R) : Type 0 where
    pub piece : PerfRecordIter R
    pub truncated : RawRecordTruncated state old piece
    pub stopped : IsStopped piece new
    pub offset : new.offset ≡ piece.offset

  -- The records end.
  pub record StepsToEnd (old : PerfRecordIter R) (file : PerfFile) (new : PerfRecordIter R) (file' : PerfFile) : Type 0 where
    pub stage_ended : new.stage ≡ Ended
    pub cause : SectionEnds old new ⊎ PipeEnds old new
    pub file_unchanged : file' ≡ file

  -- Reading the raw record failed.
  pub record ReadingFails (old : PerfRecordIter R) (file : PerfFile) (e : Error) (new : PerfRecordIter R) (file' : PerfFile) : Type 0 where
    pub piece : PerfRecordIter R
    pub read_error : RawRecordError state old e piece
    pub only_to_grow : e ≡ error.Memory → RawRecordExceedsBuffer state old piece
    pub stopped : IsStopped piece new
    pub offset : new.offset ≡ piece.offset
    pub file_unchanged : file' ≡ file

  -- The record was read, and its metadata can't be applied.
  pub record ProcessingFails (old : PerfRecordIter R) (file : PerfFile) (e : Error) (new : PerfRecordIter R) (file' : PerfFile) : Type 0 where
    pub header : PerfEventHeader
    pub piece : PerfRecordIter R
    pub raw_record : RawRecordRead state old header piece
    pub no_marker : header.type_ ≢ finished_round
    pub rejecting : PerfRecordIter R
    pub rejected : RecordRejected state piece file header e rejecting file'
    pub stopped : IsStopped rejecting new
    pub offset : new.offset ≡ old.offset

  pub record StepsToError (old : PerfRecordIter R) (file : PerfFile) (e : Error) (new : PerfRecordIter R) (file' : PerfFile) : Type 0 where
    pub stage_failed : new.stage ≡ Failed
    pub may_start : MayStartAt (section_size_of state old) old.offset
    pub cause : ReadingFails old file e new file' ⊎ ProcessingFails old file e new file'

  abbrev pub Steps : PerfRecordIter R → PerfFile → Result (Option IdentifiedItem) Error → PerfRecordIter R → PerfFile → Type 0
  Steps old file (Ok (Some (Record found))) new file' = StepsToRecord old file found new file'
  Steps old file (Ok (Some (RoundEnd ended))) new file' = StepsOverMarker old file ended new file'
  Steps old file (Ok None) new file' = StepsToEnd old file new file'
  Steps old file (Err e) new file' = StepsToError old file e new file'

  -- One item was returned: a record, whose body is in the buffer, or the end of a round.
  abbrev pub AdvancesItem : PerfRecordIter R → PerfFile → Result (Option IdentifiedItem) Error → PerfRecordIter R → PerfFile → Type 0
  AdvancesItem old file (Ok (Some (Record found))) new file' =
      ReturnsNextRecord state old file (record_view_with new.attribute_lookup found new.endian new.body.items) new file'
  AdvancesItem old file (Ok (Some (RoundEnd ended))) new file' = ReturnsRoundEnd state old file ended new file'
  AdvancesItem old file (Ok None) new file' = ReturnsEndHere state old file new file'
  AdvancesItem old file (Err e) new file' = ReturnsErrorHere state old file e new file'
