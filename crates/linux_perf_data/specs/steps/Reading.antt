-- Steps of private functions: sequences of calls of an iterator: the records that they return, and what ends them.
use Rattle.std.specs.Prelude.{◌≡◌, ℕ, ◌+◌, ◌^◌, ◌<◌, ◌⊎◌, List, ◌++◌, None, IfSome}
use Rattle.perfdata_sources.specs.Source.{State, Consumed, SourcePaused}
use Rattle.perfdata_sections.specs.declared.error.Error.{Error}
use Rattle.linux_perf_data.specs.declared.records.iter.PerfRecordIter.{PerfRecordIter}
use Rattle.linux_perf_data.specs.declared.records.iter.Stage.TheVariants.{Running, Ended}
use Rattle.linux_perf_data.specs.declared.perf_file.PerfFile.{PerfFile}
use Rattle.linux_perf_data.specs.Attribute.{Attribute}
use Rattle.linux_perf_data.specs.FeatureNumbers.{event_desc}
use Rattle.linux_perf_data.specs.PerfFile.{feature_data_in_file, attributes_of_file}
use Rattle.linux_perf_data.specs.AttributeLookup.{Represents}
use Rattle.linux_perf_data.specs.Layout.{RecordView, LayoutEnd, ends_complete, ends_with_error, LayoutError, RemainingRecords, attributes_in_views}
use Rattle.linux_perf_data.specs.RecordFraming.{IsErrorFor}
use Rattle.linux_perf_data.specs.Names.{IsReadableOrAbsent}
use Rattle.linux_perf_data.specs.Iter.{iter_source_state, section_size_of, SameInput, HasRemainingRecords}
use Rattle.linux_perf_data.specs.Reading.{AreFirstRecords}

-- The iterator hasn't failed, and its offset fits in 64 bits.
pub record HasNotFailed {R : Type 0} (it : PerfRecordIter R) : Type 0 where
  pub stage : (it.stage ≡ Running) ⊎ (it.stage ≡ Ended)
  pub offset_fits : it.offset < 2 ^ 64

module _ {R : Type 0} (state : R → State) where
  -- Calls between the two iterators returned these records.
  pub record ReadSoFar (old : PerfRecordIter R) (records : List RecordView) (now : PerfRecordIter R) : Type 0 where
    pub same_input : SameInput state old now
    pub represents : (attrs : List Attribute) → Represents old.endian old.attribute_lookup attrs
        → Represents now.endian now.attribute_lookup (attrs ++ attributes_in_views old.endian (section_size_of state old) records)
    pub extends_remaining : (attrs : List Attribute) → Represents old.endian old.attribute_lookup attrs → (more : List RecordView) (end : LayoutEnd)
        → HasRemainingRecords state now (attrs ++ attributes_in_views old.endian (section_size_of state old) records) more end
        → HasRemainingRecords state old attrs (records ++ more) end
    pub consumed_bytes : List ℕ
    pub consumes : Consumed (iter_source_state state old) consumed_bytes (iter_source_state state now)

  -- The `PerfFile` matches the iterator: it has the attributes that were read and, in a pipe, no EVENT_DESC or a readable one.
  pub record HasMatchingFile (it : PerfRecordIter R) (file : PerfFile) : Type 0 where
    pub represents : Represents it.endian it.attribute_lookup (attributes_of_file file)
    pub event_desc_readable : section_size_of state it ≡ None → IsReadableOrAbsent it.endian (feature_data_in_file file event_desc)

  -- These are the first of the remaining records.
  abbrev pub AreFirstRemaining : PerfRecordIter R → List RecordView → Type 0
  AreFirstRemaining old records = (attrs : List Attribute) → Represents old.endian old.attribute_lookup attrs
      → IfSome (iter_source_state state old).bytes
      (λ bytes. AreFirstRecords (RemainingRecords old.endian bytes (section_size_of state old) old.offset old.round attrs) records)

  -- The layout is complete after these records, or, in a pipe, the source paused.
  abbrev pub EndsComplete : PerfRecordIter R → List RecordView → PerfRecordIter R → Type 0
  EndsComplete old records new =
      ((attrs : List Attribute) → Represents old.endian old.attribute_lookup attrs → HasRemainingRecords state old attrs records ends_complete)
      ⊎ ((section_size_of state old ≡ None) × SourcePaused (iter_source_state state old) (iter_source_state state new))

  -- The layout ends with an error after these records, and `e` reports it.
  abbrev pub EndsWithError : PerfRecordIter R → List RecordView → Error → Type 0
  EndsWithError old records e =
      IfSome (iter_source_state state old).bytes (λ bytes. (f : LayoutError) × ((attrs : List Attribute) → Represents old.endian old.attribute_lookup attrs
      → RemainingRecords old.endian bytes (section_size_of state old) old.offset old.round attrs records (ends_with_error f)) × IsErrorFor f e)
