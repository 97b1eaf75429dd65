-- What buffered bytes show about the remaining records.
use Rattle.std.specs.Prelude.{◌≡◌, ◌≢◌, ◌⊎◌, ◌↔◌, ℕ, ◌+◌, Bool, IsTrue, List, ◌++◌, length}
use Rattle.std.specs.List.{concat}
use Rattle.perfdata_sources.specs.Source.{State}
use Rattle.perfdata_sources.specs.Buffered.{IsPrefixOfRemaining}
use Rattle.perfdata_sources.specs.declared.endian.Endianness.{Endianness}
use Rattle.perfdata_sections.specs.RecordTypes.{finished_round}
use Rattle.linux_perf_data.specs.declared.records.iter.PerfRecordIter.{PerfRecordIter}
use Rattle.linux_perf_data.specs.declared.records.iter.Stage.TheVariants.{Running}
use Rattle.linux_perf_data.specs.RecordInput.{HasNoPendingHeader}
use Rattle.linux_perf_data.specs.Iter.{section_size_of}
use Rattle.linux_perf_data.specs.Layout.{SectionSize, MayStartAt, IsRecord, AreMarkerRecords, record_type_of}

-- From `offset` on, the bytes are markers and then a whole record that isn't a marker and starts where a record may. Any bytes
-- may follow.
pub record ContainsNextRecord (order : Endianness) (bound : SectionSize) (offset : ℕ) (bytes : List ℕ) : Type 0 where
  pub markers : List (List ℕ)
  pub valid_markers : AreMarkerRecords order bound offset markers
  pub may_start : MayStartAt bound (offset + length (concat markers))
  pub raw_record : List ℕ
  pub is_record : IsRecord order raw_record
  pub not_marker : record_type_of order raw_record ≢ finished_round
  pub rest : List ℕ
  pub split : bytes ≡ concat markers ++ (raw_record ++ rest)

module _ {R : Type 0} (state : R → State) where
  -- No record may start at the iterator's offset, or the iterator isn't running.
  abbrev pub IsFinished : PerfRecordIter R → Type 0
  IsFinished it = (it.stage ≢ Running) ⊎ (¬ MayStartAt (section_size_of state it) it.offset)

  -- The buffered bytes contain the whole next record, and no header is pending before them.
  pub record BuffersNextRecord (it : PerfRecordIter R) (bytes : List ℕ) : Type 0 where
    pub no_pending_header : HasNoPendingHeader it.input
    pub contains_next : ContainsNextRecord it.endian (section_size_of state it) it.offset bytes

  -- The next call reads no bytes that the source hasn't buffered: the iterator is finished, or the buffered bytes contain the
  -- whole next record.
  abbrev pub IsNextBuffered : (R → List ℕ) → PerfRecordIter R → Type 0
  IsNextBuffered buffered it = IsFinished it ⊎ BuffersNextRecord it (buffered it.source)

  -- The same of some prefix of the remaining bytes. The result is true if the iterator is finished.
  pub record TestsNextBuffered (it : PerfRecordIter R) (answer : Bool) : Type 0 where
    pub buffered_bytes : List ℕ
    pub is_prefix : IsPrefixOfRemaining (state it.source) buffered_bytes
    pub if_finished : IsFinished it → IsTrue answer
    pub if_not_finished : ¬ IsFinished it → IsTrue answer ↔ BuffersNextRecord it buffered_bytes
