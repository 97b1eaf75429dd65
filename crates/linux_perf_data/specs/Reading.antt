-- Sequences of calls of an iterator: the records that they return, and what ends them.
use Rattle.std.specs.Prelude.{◌≡◌, ℕ, ◌+◌, List, [], ◌∷◌, ◌++◌, length, IsTrue}
use Rattle.perfdata_sources.specs.Source.{State}
use Rattle.perfdata_sources.specs.declared.endian.Endianness.{Endianness}
use Rattle.perfdata_sections.specs.declared.error.Error.{Error}
use Rattle.linux_perf_data.specs.declared.records.iter.PerfRecordIter.{PerfRecordIter}
use Rattle.linux_perf_data.specs.declared.perf_file.PerfFile.{PerfFile}
use Rattle.linux_perf_data.specs.Layout.{SectionSize, RecordView, LayoutEnd}
use Rattle.linux_perf_data.specs.RecordFraming.{SourceErrorInRecord}
use Rattle.linux_perf_data.specs.Iter.{iter_source_state, section_size_of, ReturnsRecord}

-- The source error of a record, after any number of its bytes.
abbrev pub SourceErrorInSomeRecord : Endianness → SectionSize → State → Error → State → Type 0
SourceErrorInSomeRecord order bound old e new = (bytes : List ℕ) × SourceErrorInRecord order bound old bytes e new

-- These are the first records, whatever follows them.
abbrev pub AreFirstRecords : (List RecordView → LayoutEnd → Type 0) → List RecordView → Type 0
AreFirstRecords AreRemaining records = (more : List RecordView) × ((end : LayoutEnd) × AreRemaining (records ++ more) end)

-- The end offset of the last of these records, which start at `offset` or later.
abbrev pub end_after : ℕ → List RecordView → ℕ
end_after offset [] = offset
end_after offset (h ∷ hs) = end_after (h.offset + 8 + length h.body) hs

module _ {R : Type 0} (state : R → State) where
  -- Consecutive calls returned these records. Each call received the `PerfFile` as the previous one left it.
  abbrev pub ReturnsRecords : PerfRecordIter R → PerfFile → List RecordView → PerfRecordIter R → PerfFile → Type 0
  ReturnsRecords old file [] now file' = (now ≡ old) × (file' ≡ file)
  ReturnsRecords old file (h ∷ hs) now file' =
      (next : PerfRecordIter R) × ((next_file : PerfFile) × ReturnsRecord state old file h next next_file × ReturnsRecords next next_file hs now file')

  -- Zero calls return no records.
  abbrev pub NoCalls : Type 0
  NoCalls = (it : PerfRecordIter R) (file : PerfFile) → ReturnsRecords it file [] it file

  -- One call after others returns one record more.
  abbrev pub OneCallMore : Type 0
  OneCallMore = (old now new : PerfRecordIter R) (file now_file file' : PerfFile) (records : List RecordView) (h : RecordView) →
      ReturnsRecords old file records now now_file → ReturnsRecord state now now_file h new file' → ReturnsRecords old file (records ++ h ∷ []) new file'

  -- The last call failed because the source failed or paused in it, and `e` is the source error. An infallible source has none.
  pub record SourceErrorInCall (old : State) (now : PerfRecordIter R) (e : Error) (new : PerfRecordIter R) : Type 0 where
    pub not_steady : ¬ IsTrue old.steady
    pub source_error : SourceErrorInSomeRecord now.endian (section_size_of state now) (iter_source_state state now) e (iter_source_state state new)
