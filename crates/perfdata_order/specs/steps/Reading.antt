-- Reading the next record of a source, which is held at once, or whose body is copied, or the end of a round.
use Rattle.std.specs.Prelude.{◌≡◌, ℕ, ◌+◌, ◌<◌, ◌≤◌, List, length, Option, None, Some, Result, Ok, Err}
use Rattle.std.specs.declared.alloc.AllocError.{AllocError}
use Rattle.perfdata_sources.specs.Source.{State}
use Rattle.perfdata_sections.specs.declared.error.Error.{Error}
use Rattle.linux_perf_data.specs.declared.records.iter.RecordPlace.{RecordPlace}
use Rattle.linux_perf_data.specs.declared.records.iter.PerfRecordIter.{PerfRecordIter}
use Rattle.linux_perf_data.specs.declared.perf_file.PerfFile.{PerfFile}
use Rattle.linux_perf_data.specs.Items.{ReturnsNextRecord, ReturnsRoundEnd, ReturnsEndHere}
use Rattle.perfdata_order.specs.declared.held_record.RecordEnvelope.{RecordEnvelope}
use Rattle.perfdata_order.specs.declared.held_records.HeldRecords.{HeldRecords}
use Rattle.perfdata_order.specs.declared.reading.NextRecord.{NextRecord}
use Rattle.perfdata_order.specs.declared.reading.NextRecord.TheVariants.{Held, Copied, RoundEnd}
use Rattle.perfdata_order.specs.HeldRecord.{view_with}
use Rattle.perfdata_order.specs.steps.HeldRecords.{InsertsRecord}
use Rattle.perfdata_order.specs.Sorter.{IsUnchanged}
use Rattle.perfdata_order.specs.StreamingOrder.{FailsToRead}
use Rattle.perfdata_order.specs.Times.{time_key_of}

-- Records of this round are held as soon as they are read.
abbrev pub IsUpToRound : Option ℕ → ℕ → Type 0
IsUpToRound None round = ⊥
IsUpToRound (Some last) round = round ≤ last

-- A record at this place, with this key and a body of this length, is held as soon as it is read.
pub record MayHold (last : Option ℕ) (place : RecordPlace) (len : ℕ) (key : ℕ) : Type 0 where
  pub has_time : time_key_of place ≡ Some key
  pub in_round : IsUpToRound last place.round
  pub is_small : len ≤ 65536

-- The record was inserted with this key, and counts for `size` bytes.
pub record Inserts (old : HeldRecords) (last : Option ℕ) (envelope : RecordEnvelope) (body : List ℕ) (size : ℕ) (new : HeldRecords) : Type 0 where
  pub key : ℕ
  pub may_hold : MayHold last envelope.place (length body) key
  pub inserted : InsertsRecord old key envelope body (Ok tt) new
  pub counts : size ≡ length body + 192

-- The record was inserted, or its body is in `copy`. Only the copy of a large body fails, which isn't inserted.
abbrev pub HoldsOrCopies : HeldRecords → Option ℕ → RecordEnvelope → List ℕ → Result NextRecord AllocError → List ℕ → HeldRecords → Type 0
HoldsOrCopies old last envelope body (Ok (Held size)) copy new = Inserts old last envelope body size new
HoldsOrCopies old last envelope body (Ok (Copied copied)) copy new = (copied ≡ envelope) × ((copy ≡ body) × IsUnchanged old.sorter new.sorter)
HoldsOrCopies old last envelope body (Ok RoundEnd) copy new = ⊥
HoldsOrCopies old last envelope body (Err e) copy new = (new ≡ old) × ((65536 < length body) × (length copy < length body))

module _ {R : Type 0} (state : R → State) where
  -- A record was read and inserted.
  pub record ReadsAndInserts (old : PerfRecordIter R) (file : PerfFile) (held : HeldRecords) (last : Option ℕ) (size : ℕ) (held' : HeldRecords)
      (new : PerfRecordIter R) (file' : PerfFile) : Type 0 where
    pub envelope : RecordEnvelope
    pub body : List ℕ
    pub returned : ReturnsNextRecord state old file (view_with envelope body) new file'
    pub inserts : Inserts held last envelope body size held'

  -- Reading a record, which is then inserted, or whose body is then in `copy`, or the end of a round.
  abbrev pub ReadsRecord : PerfRecordIter R → PerfFile → HeldRecords → Option ℕ → Result (Option NextRecord) Error → List ℕ → HeldRecords → PerfRecordIter R
      → PerfFile → Type 0
  ReadsRecord old file held last (Ok (Some (Held size))) copy held' new file' = ReadsAndInserts old file held last size held' new file'
  ReadsRecord old file held last (Ok (Some (Copied envelope))) copy held' new file' =
      ReturnsNextRecord state old file (view_with envelope copy) new file' × IsUnchanged held.sorter held'.sorter
  ReadsRecord old file held last (Ok (Some RoundEnd)) copy held' new file' = ((ended : ℕ) × ReturnsRoundEnd state old file ended new file') × (held' ≡ held)
  ReadsRecord old file held last (Ok None) copy held' new file' = ReturnsEndHere state old file new file' × (held' ≡ held)
  ReadsRecord old file held last (Err e) copy held' new file' = FailsToRead state old file e copy new file' × (held' ≡ held)
