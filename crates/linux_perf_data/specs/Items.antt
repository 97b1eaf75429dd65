-- The contract of `PerfRecordIter::next_item`, which returns a record or the end of a round, and sequences of its calls.
use Rattle.std.specs.Prelude.{◌≡◌, ◌≢◌, ℕ, ◌+◌, ◌^◌, ◌<◌, List, [], ◌∷◌, ◌++◌, length, Option, None, Some, Result, Ok, Err}
use Rattle.perfdata_sources.specs.Source.{State, Consumed}
use Rattle.perfdata_sections.specs.declared.error.Error.{Error}
use Rattle.perfdata_sections.specs.RecordTypes.{finished_round}
use Rattle.linux_perf_data.specs.declared.records.iter.PerfRecordIter.{PerfRecordIter}
use Rattle.linux_perf_data.specs.declared.records.iter.PerfItem.{PerfItem}
use Rattle.linux_perf_data.specs.declared.records.iter.PerfItem.TheVariants as item
use Rattle.linux_perf_data.specs.declared.records.iter.Stage.TheVariants.{Running}
use Rattle.linux_perf_data.specs.declared.perf_file.PerfFile.{PerfFile}
use Rattle.linux_perf_data.specs.Attribute.{Attribute}
use Rattle.linux_perf_data.specs.RecordInput.{HasNoPendingHeader}
use Rattle.linux_perf_data.specs.Layout.{MayStartAt, IsRecord, record_type_of, RecordView, LayoutEnd, RemainingRecords}
use Rattle.linux_perf_data.specs.Pauses.{PausesOnlyAtEndOrError}
use Rattle.linux_perf_data.specs.RecordViews.{record_view_of}
use Rattle.linux_perf_data.specs.Iter.{iter_source_state, section_size_of, SameInput, ReturnsRecord, ReturnsEnd, ReturnsError, MemoryOnlyToGrow}
use Rattle.linux_perf_data.specs.Reading.{ReturnsRecords}

-- What a call returned: a record, or the end of the round with this number.
pub data ItemView : Type 0 where
  item_record : RecordView → ItemView
  item_round_end : ℕ → ItemView

-- The records among these items.
abbrev pub records_of_items : List ItemView → List RecordView
records_of_items [] = []
records_of_items (item_record h ∷ items) = h ∷ records_of_items items
records_of_items (item_round_end ended ∷ items) = records_of_items items

module _ {R : Type 0} (state : R → State) where
  -- The next raw record is a marker. The call consumed it, and no byte more. It returned the round that the marker ends.
  pub record ReturnsRoundEnd (old : PerfRecordIter R) (file : PerfFile) (ended : ℕ) (new : PerfRecordIter R) (file' : PerfFile) : Type 0 where
    pub was_running : old.stage ≡ Running
    pub stage_running : new.stage ≡ Running
    pub same_input : SameInput state old new
    pub same_attributes : new.attribute_lookup ≡ old.attribute_lookup
    pub ended_round : ended ≡ old.round
    pub round : new.round ≡ old.round + 1
    pub marker : List ℕ
    pub may_start : MayStartAt (section_size_of state old) old.offset
    pub is_record : IsRecord old.endian marker
    pub is_marker : record_type_of old.endian marker ≡ finished_round
    pub consumes : Consumed (iter_source_state state old) marker (iter_source_state state new)
    pub no_pending_header : HasNoPendingHeader new.input
    pub offset : new.offset ≡ old.offset + length marker
    pub offset_fits : new.offset < 2 ^ 64
    -- remaining(before) = remaining(after), whatever bytes follow
    pub same_remaining : (rest : List ℕ) (attrs : List Attribute) (records : List RecordView) (end : LayoutEnd)
        → RemainingRecords new.endian rest (section_size_of state new) new.offset new.round attrs records end
        → RemainingRecords old.endian (marker ++ rest) (section_size_of state old) old.offset old.round attrs records end
    pub empty_buffer : new.body.items ≡ []
    pub file_unchanged : file' ≡ file

  -- The next raw record is this record: no marker precedes it.
  pub record ReturnsNextRecord (old : PerfRecordIter R) (file : PerfFile) (h : RecordView) (new : PerfRecordIter R) (file' : PerfFile) : Type 0 where
    pub returned : ReturnsRecord state old file h new file'
    pub starts_here : h.offset ≡ old.offset
    pub no_marker : h.record_type ≢ finished_round

  -- The end or the error is that of `next_record`. No marker was skipped.
  abbrev pub ReturnsEndHere : PerfRecordIter R → PerfFile → PerfRecordIter R → PerfFile → Type 0
  ReturnsEndHere old file new file' = ReturnsEnd state old file new file' × (new.offset ≡ old.offset)

  abbrev pub ReturnsErrorHere : PerfRecordIter R → PerfFile → Error → PerfRecordIter R → PerfFile → Type 0
  ReturnsErrorHere old file e new file' = ReturnsError state old file e new file' × (new.offset ≡ old.offset)

  -- The result of a call of `next_item`.
  abbrev pub ReturnsItem : PerfRecordIter R → PerfFile → Result (Option PerfItem) Error → PerfRecordIter R → PerfFile → Type 0
  ReturnsItem old file (Ok (Some (item.Record place next))) new file' = ReturnsNextRecord old file (record_view_of place next) new file'
  ReturnsItem old file (Ok (Some (item.RoundEnd ended))) new file' = ReturnsRoundEnd old file ended new file'
  ReturnsItem old file (Ok None) new file' = ReturnsEndHere old file new file'
  ReturnsItem old file (Err e) new file' = ReturnsErrorHere old file e new file'

  -- The result of a call, and the iterator after the loan of the record ends, as `NextRecord` has them.
  abbrev pub NextItem : (R → ℕ) → PerfRecordIter R → PerfFile → Result (Option PerfItem) Error → PerfRecordIter R → PerfFile → Type 0
  NextItem loan old file r new file' = ReturnsItem old file r new file' × (loan new.source ≡ loan old.source)
      × PausesOnlyAtEndOrError (state old.source) r (state new.source) × MemoryOnlyToGrow state old r new

  -- What the next call of `next_record` returns at `now`, it returns at `old` too: only markers are between.
  pub record SameNext (old now : PerfRecordIter R) : Type 0 where
    pub same_record : (file : PerfFile) (h : RecordView) (new : PerfRecordIter R) (file' : PerfFile) → ReturnsRecord state now file h new file'
        → ReturnsRecord state old file h new file'
    pub same_end : (file : PerfFile) (new : PerfRecordIter R) (file' : PerfFile) → ReturnsEnd state now file new file' → ReturnsEnd state old file new file'
    pub same_error : (file : PerfFile) (e : Error) (new : PerfRecordIter R) (file' : PerfFile) → ReturnsError state now file e new file'
        → ReturnsError state old file e new file'

  -- One call of `next_item` returned this item.
  abbrev pub ReturnsOneItem : PerfRecordIter R → PerfFile → ItemView → PerfRecordIter R → PerfFile → Type 0
  ReturnsOneItem old file (item_record h) new file' = ReturnsNextRecord old file h new file'
  ReturnsOneItem old file (item_round_end ended) new file' = ReturnsRoundEnd old file ended new file'

  -- Consecutive calls of `next_item` returned these items. Each call received the `PerfFile` as the previous one left it.
  abbrev pub ReturnsItems : PerfRecordIter R → PerfFile → List ItemView → PerfRecordIter R → PerfFile → Type 0
  ReturnsItems old file [] now file' = (now ≡ old) × (file' ≡ file)
  ReturnsItems old file (i ∷ items) now file' =
      (next : PerfRecordIter R) × ((next_file : PerfFile) × ReturnsOneItem old file i next next_file × ReturnsItems next next_file items now file')

  -- Without the ends of rounds, the items are what calls of `next_record` return, up to an iterator that skips the last markers.
  abbrev pub ItemsAreRecords : Type 0
  ItemsAreRecords = (old now : PerfRecordIter R) (file file' : PerfFile) (items : List ItemView) → ReturnsItems old file items now file'
      → (last : PerfRecordIter R) × (ReturnsRecords state old file (records_of_items items) last file' × SameNext last now)
