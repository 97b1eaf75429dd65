-- The records of a source in order of time: the steps of which a call consists.
use Rattle.std.specs.Prelude.{◌≡◌, ℕ, ◌+◌, ◌-◌, ◌^◌, ◌<◌, ◌≤◌, ◌⊎◌, min, Bool, true, false, List, [], ◌∷◌, length, Option, None, Some, Result, Ok, Err}
use Rattle.std.specs.Ordering.{nat_cmp}
use Rattle.std.specs.declared.alloc.AllocError.{AllocError}
use Rattle.perfdata_sources.specs.Source.{State}
use Rattle.perfdata_sections.specs.declared.error.Error.{Error}
use Rattle.perfdata_sections.specs.declared.error.Error.TheVariants as error
use Rattle.perfdata_records.specs.declared.record.PerfFileRecord.{PerfFileRecord}
use Rattle.linux_perf_data.specs.declared.records.iter.RecordPlace.{RecordPlace}
use Rattle.linux_perf_data.specs.declared.records.iter.PerfRecordIter.{PerfRecordIter}
use Rattle.linux_perf_data.specs.declared.perf_file.PerfFile.{PerfFile}
use Rattle.linux_perf_data.specs.Items.{ReturnsNextRecord, ReturnsRoundEnd, ReturnsEndHere, ReturnsErrorHere}
use Rattle.linux_perf_data.specs.Layout.{RecordView}
use Rattle.linux_perf_data.specs.RecordViews.{record_view_of}
use Rattle.perfdata_order.specs.declared.held_record.RecordEnvelope.{RecordEnvelope}
use Rattle.perfdata_order.specs.declared.held_record.HeldRecord.{HeldRecord}
use Rattle.perfdata_order.specs.declared.streaming.PendingStep.{PendingStep}
use Rattle.perfdata_order.specs.declared.streaming.PendingStep.TheVariants as variant
use Rattle.perfdata_order.specs.declared.streaming.BodyBuffer.{BodyBuffer}
use Rattle.perfdata_order.specs.declared.streaming.BodyBuffer.TheVariants.{Read, Sorted}
use Rattle.perfdata_order.specs.declared.streaming.OrderedRecords.{OrderedRecords}
use Rattle.perfdata_order.specs.HeldRecord.{view_with, held_view, held_size}
use Rattle.perfdata_order.specs.HeldRecords.{body_of, blocks_in}
use Rattle.perfdata_order.specs.Sorter.{held_of, available_of, pending_of, IsNew, IsUnchanged, Inserted, RoundEnded, AllRoundsEnded, HalfReleased, Returned}
use Rattle.perfdata_order.specs.Times.{key_of_time}
use Rattle.perfdata_order.specs.SorterLaws.{Call}
use Rattle.perfdata_order.specs.SorterLaws.Call.{inserts, ends_round, ends_all, releases, returns, keeps}

-- What was read from the source and isn't in the sorter: nothing, a record with its key if it is timed, the end of a round, the end
-- of the source, an error that is not yet returned, or one that was.
pub data Unplaced : Type 0 where
  nothing : Unplaced
  waiting : Option ℕ → RecordView → Unplaced
  round_ending : Unplaced
  ending : Unplaced
  failing : Error → Unplaced
  failed : Unplaced

abbrev pub unplaced_by : PendingStep → List ℕ → Unplaced
unplaced_by variant.Nothing body = nothing
unplaced_by (variant.Record key envelope) body = waiting key (view_with envelope body)
unplaced_by variant.RoundEnd body = round_ending
unplaced_by variant.End body = ending
unplaced_by (variant.Failure e) body = failing e
unplaced_by variant.Failed body = failed

abbrev pub IsUnplaced : Unplaced → Type 0
IsUnplaced nothing = ⊥
IsUnplaced (waiting key h) = Unit {0}
IsUnplaced round_ending = Unit {0}
IsUnplaced ending = Unit {0}
IsUnplaced (failing e) = Unit {0}
IsUnplaced failed = Unit {0}

-- A call returns it as soon as no record is available: a record without a time, the end or an error.
abbrev pub IsReturnable : Unplaced → Type 0
IsReturnable nothing = ⊥
IsReturnable (waiting None h) = Unit {0}
IsReturnable (waiting (Some key) h) = ⊥
IsReturnable round_ending = ⊥
IsReturnable ending = Unit {0}
IsReturnable (failing e) = Unit {0}
IsReturnable failed = Unit {0}

-- A step of a call. A record was read, with its key if it is timed. The end of the round with this number was read. A record without
-- a time was returned. The end or an error was read. The sorter was called. The error was returned.
pub data Step : Type 0 where
  reads : Option ℕ → RecordView → Step
  reads_round_end : ℕ → Step
  passes : RecordView → Step
  reads_end : Step
  reads_error : Error → Step
  sorts : Call ℕ HeldRecord → Step
  reports : Error → Step

-- The records that the steps returned.
abbrev pub returned_in : List Step → List RecordView
returned_in [] = []
returned_in (reads key h ∷ steps) = returned_in steps
returned_in (reads_round_end ended ∷ steps) = returned_in steps
returned_in (passes h ∷ steps) = h ∷ returned_in steps
returned_in (reads_end ∷ steps) = returned_in steps
returned_in (reads_error e ∷ steps) = returned_in steps
returned_in (sorts (inserts key held) ∷ steps) = returned_in steps
returned_in (sorts ends_round ∷ steps) = returned_in steps
returned_in (sorts ends_all ∷ steps) = returned_in steps
returned_in (sorts releases ∷ steps) = returned_in steps
returned_in (sorts (returns key held) ∷ steps) = held_view held ∷ returned_in steps
returned_in (sorts keeps ∷ steps) = returned_in steps
returned_in (reports e ∷ steps) = returned_in steps

-- The pending record is of the next round, or the end of the current round is pending.
abbrev pub IsOneRoundLater : Unplaced → ℕ → ℕ → Type 0
IsOneRoundLater nothing old new = ⊥
IsOneRoundLater (waiting key h) old new = (h.round ≡ old + 1) × (new ≡ h.round)
IsOneRoundLater round_ending old new = new ≡ min (old + 1) 18446744073709551615
IsOneRoundLater ending old new = ⊥
IsOneRoundLater (failing e) old new = ⊥
IsOneRoundLater failed old new = ⊥

-- The pending record is of a round after the next one, or nothing more is read.
abbrev pub IsLaterOrLast : Unplaced → ℕ → ℕ → Type 0
IsLaterOrLast nothing old new = ⊥
IsLaterOrLast (waiting key h) old new = (old + 2 ≤ h.round) × (new ≡ h.round)
IsLaterOrLast round_ending old new = ⊥
IsLaterOrLast ending old new = new ≡ old
IsLaterOrLast (failing e) old new = new ≡ old
IsLaterOrLast failed old new = new ≡ old

-- What is pending after a round ended.
abbrev pub after_round : Unplaced → Unplaced
after_round nothing = nothing
after_round (waiting key h) = waiting key h
after_round round_ending = nothing
after_round ending = ending
after_round (failing e) = failing e
after_round failed = failed

module _ {R : Type 0} where
  abbrev pub unplaced_of : OrderedRecords R → Unplaced
  unplaced_of s = unplaced_by s.pending s.body.items

  -- The current round. The rounds before it have ended.
  abbrev pub round_of : OrderedRecords R → ℕ
  round_of s = s.round

  -- The budget in bytes, or 0 if there is none.
  abbrev pub budget_of : OrderedRecords R → ℕ
  budget_of s = s.budget

  -- The bytes that count for the records in the sorter.
  abbrev pub held_bytes_of : OrderedRecords R → ℕ
  held_bytes_of s = s.held_bytes

  -- The number of blocks for the bodies of held records.
  abbrev pub blocks_of : OrderedRecords R → ℕ
  blocks_of s = blocks_in s.held

  -- How often records were returned early.
  abbrev pub early_of : OrderedRecords R → ℕ
  early_of s = s.early

  pub record SameBudget (old new : OrderedRecords R) : Type 0 where
    pub budget : budget_of new ≡ budget_of old
    pub held_bytes : held_bytes_of new ≡ held_bytes_of old
    pub early : early_of new ≡ early_of old

  -- The sorter and the current round are unchanged.
  pub record SameOrder (old new : OrderedRecords R) : Type 0 where
    pub sorter : new.held.sorter ≡ old.held.sorter
    pub round : new.round ≡ old.round
    pub same_budget : SameBudget old new

  -- A record of this size may be inserted: there is no budget, or the record is within it, or no record is held.
  abbrev pub FitsBudget : OrderedRecords R → ℕ → Type 0
  FitsBudget s size = (budget_of s ≡ 0) ⊎ ((held_bytes_of s + size ≤ budget_of s) ⊎ (held_of s.held.sorter ≡ []))

  -- The pending record was inserted into the sorter. The rounds before its own had ended.
  pub record InsertsPending (old : OrderedRecords R) (key : ℕ) (held : HeldRecord) (new : OrderedRecords R) : Type 0 where
    pub was_pending : unplaced_of old ≡ waiting (Some key) (held_view held)
    pub in_round : (held_view held).round ≤ old.round
    pub none_available : available_of old.held.sorter ≡ []
    pub fits_budget : FitsBudget old (held_size (held_view held))
    pub size_fits : held_size (held_view held) < 2 ^ 64
    pub inserted : Inserted nat_cmp old.held.sorter key held new.held.sorter
    pub pending : unplaced_of new ≡ nothing
    pub same_records : new.records ≡ old.records
    pub round : new.round ≡ old.round
    pub budget : budget_of new ≡ budget_of old
    pub early : early_of new ≡ early_of old
    pub held_bytes : held_bytes_of old + held_size (held_view held) < 2 ^ 64 → held_bytes_of new ≡ held_bytes_of old + held_size (held_view held)

  pub record EndsOneRound (old new : OrderedRecords R) : Type 0 where
    pub round : IsOneRoundLater (unplaced_of old) old.round new.round
    pub ended : RoundEnded nat_cmp old.held.sorter new.held.sorter
    pub pending : unplaced_of new ≡ after_round (unplaced_of old)
    pub same_records : new.records ≡ old.records
    pub same_budget : SameBudget old new

  pub record EndsRounds (old new : OrderedRecords R) : Type 0 where
    pub round : IsLaterOrLast (unplaced_of old) old.round new.round
    pub ended : AllRoundsEnded nat_cmp old.held.sorter new.held.sorter
    pub pending : unplaced_of new ≡ unplaced_of old
    pub same_records : new.records ≡ old.records
    pub same_budget : SameBudget old new

  -- The older half of the records became available, because one more of this size exceeds the budget.
  pub record HalfReleasedEarly (old : OrderedRecords R) (size : ℕ) (new : OrderedRecords R) : Type 0 where
    pub has_budget : 0 < budget_of old
    pub exceeds : budget_of old < held_bytes_of old + size
    pub some_held : 0 < length (held_of old.held.sorter)
    pub released : HalfReleased nat_cmp old.held.sorter new.held.sorter
    pub pending : unplaced_of new ≡ unplaced_of old
    pub same_records : new.records ≡ old.records
    pub round : new.round ≡ old.round
    pub budget : budget_of new ≡ budget_of old
    pub held_bytes : held_bytes_of new ≡ held_bytes_of old
    pub counted : early_of new ≡ min (early_of old + 1) 18446744073709551615

  abbrev pub ReleasesForPending : Unplaced → OrderedRecords R → OrderedRecords R → Type 0
  ReleasesForPending nothing old new = ⊥
  ReleasesForPending (waiting None h) old new = ⊥
  ReleasesForPending (waiting (Some key) h) old new = HalfReleasedEarly old (held_size h) new
  ReleasesForPending round_ending old new = ⊥
  ReleasesForPending ending old new = ⊥
  ReleasesForPending (failing e) old new = ⊥
  ReleasesForPending failed old new = ⊥

  -- The next available record was returned.
  pub record ReturnsSorted (old : OrderedRecords R) (key : ℕ) (held : HeldRecord) (new : OrderedRecords R) : Type 0 where
    pub returned : Returned old.held.sorter key held new.held.sorter
    pub pending : unplaced_of new ≡ unplaced_of old
    pub same_records : new.records ≡ old.records
    pub round : new.round ≡ old.round
    pub budget : budget_of new ≡ budget_of old
    pub early : early_of new ≡ early_of old
    pub held_bytes : held_bytes_of new ≡ held_bytes_of old - held_size (held_view held)

  -- A call of the sorter changed nothing.
  pub record KeepsSorter (old new : OrderedRecords R) : Type 0 where
    pub unchanged : IsUnchanged old.held.sorter new.held.sorter
    pub pending : unplaced_of new ≡ unplaced_of old
    pub same_records : new.records ≡ old.records
    pub round : new.round ≡ old.round
    pub same_budget : SameBudget old new

  -- The pending record was returned: it has no time. The rounds before its own had ended, and the records that were available then
  -- had been returned.
  pub record PassesPending (old : OrderedRecords R) (h : RecordView) (new : OrderedRecords R) : Type 0 where
    pub was_pending : unplaced_of old ≡ waiting None h
    pub in_round : h.round ≤ old.round
    pub none_available : available_of old.held.sorter ≡ []
    pub pending : unplaced_of new ≡ nothing
    pub same_records : new.records ≡ old.records
    pub same_order : SameOrder old new

  -- The error that was read was returned. All records before it had been returned.
  pub record ReportsError (old : OrderedRecords R) (e : Error) (new : OrderedRecords R) : Type 0 where
    pub was_pending : unplaced_of old ≡ failing e
    pub all_returned : held_of old.held.sorter ≡ []
    pub pending : unplaced_of new ≡ failed
    pub same_records : new.records ≡ old.records
    pub same_order : SameOrder old new

  abbrev pub CallsSorter : Call ℕ HeldRecord → OrderedRecords R → OrderedRecords R → Type 0
  CallsSorter (inserts key held) old new = InsertsPending old key held new
  CallsSorter ends_round old new = EndsOneRound old new
  CallsSorter ends_all old new = EndsRounds old new
  CallsSorter releases old new = ReleasesForPending (unplaced_of old) old new
  CallsSorter (returns key held) old new = ReturnsSorted old key held new
  CallsSorter keeps old new = KeepsSorter old new

  -- A new order has an empty sorter, and nothing was read.
  pub record IsNewOrder (records : PerfRecordIter R) (bytes : ℕ) (new : OrderedRecords R) : Type 0 where
    pub same_records : new.records ≡ records
    pub empty : IsNew new.held.sorter
    pub round : new.round ≡ 0
    pub pending : unplaced_of new ≡ nothing
    pub budget : budget_of new ≡ bytes
    pub none_held : held_bytes_of new ≡ 0
    pub none_early : early_of new ≡ 0

  -- The buffer that contains the body of a record to be returned.
  abbrev pub body_in : BodyBuffer → OrderedRecords R → List ℕ
  body_in Read s = s.body.items
  body_in Sorted s = body_of s.held s.returned

  module _ (state : R → State) where
    -- A body of more than 65,536 bytes was read, and memory ran out for its copy: `copy` is shorter than the body.
    pub record CopyFailed (old : PerfRecordIter R) (file : PerfFile) (e : Error) (copy : List ℕ) (new : PerfRecordIter R) (file' : PerfFile) : Type 0 where
      pub out_of_memory : e ≡ error.Memory
      pub h : RecordView
      pub returned : ReturnsNextRecord state old file h new file'
      pub is_large : 65536 < length h.body
      pub not_copied : length copy < length h.body

    -- The error of the source, or of the copy of a large body.
    abbrev pub FailsToRead : PerfRecordIter R → PerfFile → Error → List ℕ → PerfRecordIter R → PerfFile → Type 0
    FailsToRead old file e copy new file' = ReturnsErrorHere state old file e new file' ⊎ CopyFailed old file e copy new file'

    -- The next record was read, and is pending. No marker precedes it, and all available records had been returned.
    pub record ReadsWaiting (old : OrderedRecords R) (file : PerfFile) (key : Option ℕ) (h : RecordView) (new : OrderedRecords R)
        (file' : PerfFile) : Type 0 where
      pub nothing_pending : unplaced_of old ≡ nothing
      pub none_available : available_of old.held.sorter ≡ []
      pub returned : ReturnsNextRecord state old.records file h new.records file'
      pub has_time : key_of_time h.timestamp ≡ key
      pub pending : unplaced_of new ≡ waiting key h
      pub same_order : SameOrder old new

    -- The next marker was read, and no byte after it. The end of its round is pending.
    pub record ReadsRoundEnd (old : OrderedRecords R) (file : PerfFile) (ended : ℕ) (new : OrderedRecords R) (file' : PerfFile) : Type 0 where
      pub nothing_pending : unplaced_of old ≡ nothing
      pub none_available : available_of old.held.sorter ≡ []
      pub returned : ReturnsRoundEnd state old.records file ended new.records file'
      pub pending : unplaced_of new ≡ round_ending
      pub same_order : SameOrder old new

    -- The end of the records was read.
    pub record ReadsEnd (old : OrderedRecords R) (file : PerfFile) (new : OrderedRecords R) (file' : PerfFile) : Type 0 where
      pub nothing_pending : unplaced_of old ≡ nothing
      pub none_available : available_of old.held.sorter ≡ []
      pub ended : ReturnsEndHere state old.records file new.records file'
      pub pending : unplaced_of new ≡ ending
      pub same_order : SameOrder old new

    -- An error was read.
    pub record ReadsError (old : OrderedRecords R) (file : PerfFile) (e : Error) (new : OrderedRecords R) (file' : PerfFile) : Type 0 where
      pub nothing_pending : unplaced_of old ≡ nothing
      pub none_available : available_of old.held.sorter ≡ []
      pub fails : FailsToRead old.records file e new.body.items new.records file'
      pub pending : unplaced_of new ≡ failing e
      pub same_order : SameOrder old new

    abbrev pub TakesStep : Step → OrderedRecords R → PerfFile → OrderedRecords R → PerfFile → Type 0
    TakesStep (reads key h) old file new file' = ReadsWaiting old file key h new file'
    TakesStep (reads_round_end ended) old file new file' = ReadsRoundEnd old file ended new file'
    TakesStep (passes h) old file new file' = PassesPending old h new × (file' ≡ file)
    TakesStep reads_end old file new file' = ReadsEnd old file new file'
    TakesStep (reads_error e) old file new file' = ReadsError old file e new file'
    TakesStep (sorts call) old file new file' = CallsSorter call old new × (file' ≡ file)
    TakesStep (reports e) old file new file' = ReportsError old e new × (file' ≡ file)

    -- Consecutive steps led from one state to the other.
    abbrev pub TakesSteps : List Step → OrderedRecords R → PerfFile → OrderedRecords R → PerfFile → Type 0
    TakesSteps [] old file new file' = (new ≡ old) × (file' ≡ file)
    TakesSteps (step ∷ steps) old file new file' =
        (next : OrderedRecords R) × ((next_file : PerfFile) × TakesStep step old file next next_file × TakesSteps steps next next_file new file')

    -- Steps that returned nothing.
    pub record Progress (old : OrderedRecords R) (file : PerfFile) (new : OrderedRecords R) (file' : PerfFile) : Type 0 where
      pub steps : List Step
      pub none_returned : returned_in steps ≡ []
      pub taken : TakesSteps steps old file new file'

    -- Steps that returned nothing, and then one that returned this record.
    pub record RecordReturned (old : OrderedRecords R) (file : PerfFile) (h : RecordView) (new : OrderedRecords R) (file' : PerfFile) : Type 0 where
      pub middle : OrderedRecords R
      pub middle_file : PerfFile
      pub before : Progress old file middle middle_file
      pub step : Step
      pub returns_record : returned_in (step ∷ []) ≡ h ∷ []
      pub taken : TakesStep step middle middle_file new file'

    -- The end was returned, and all records before it had been.
    pub record EndReturned (old : OrderedRecords R) (file : PerfFile) (new : OrderedRecords R) (file' : PerfFile) : Type 0 where
      pub before : Progress old file new file'
      pub at_end : unplaced_of new ≡ ending
      pub all_returned : held_of new.held.sorter ≡ []

    -- The error was returned, and all records before it had been.
    pub record ErrorReturned (old : OrderedRecords R) (file : PerfFile) (e : Error) (new : OrderedRecords R) (file' : PerfFile) : Type 0 where
      pub middle : OrderedRecords R
      pub before : Progress old file middle file'
      pub reported : ReportsError middle e new

    -- An earlier call returned the error, and no record is left.
    pub record StillFailed (old : OrderedRecords R) (file : PerfFile) (e : Error) (new : OrderedRecords R) (file' : PerfFile) : Type 0 where
      pub is_failed : e ≡ error.Failed
      pub before : Progress old file new file'
      pub has_failed : unplaced_of new ≡ failed
      pub all_returned : held_of new.held.sorter ≡ []

    abbrev pub FailsInOrder : OrderedRecords R → PerfFile → Error → OrderedRecords R → PerfFile → Type 0
    FailsInOrder old file e new file' =
        ErrorReturned old file e new file' ⊎ (StillFailed old file e new file' ⊎ ((e ≡ error.Memory) × Progress old file new file'))

    -- The result of a call whose record has its body in a buffer. If memory runs out for the order, nothing is lost.
    abbrev pub AdvancesInOrder : OrderedRecords R → PerfFile → Result (Option (RecordEnvelope × BodyBuffer)) Error → OrderedRecords R → PerfFile → Type 0
    AdvancesInOrder old file (Ok (Some found)) new file' = RecordReturned old file (view_with found.0 (body_in found.1 new)) new file'
    AdvancesInOrder old file (Ok None) new file' = EndReturned old file new file'
    AdvancesInOrder old file (Err e) new file' = FailsInOrder old file e new file'

    -- The result of a call. If memory runs out for the order, nothing is lost.
    abbrev pub ReturnsInOrder : OrderedRecords R → PerfFile → Result (Option (RecordPlace × PerfFileRecord)) Error → OrderedRecords R → PerfFile → Type 0
    ReturnsInOrder old file (Ok (Some r)) new file' = RecordReturned old file (record_view_of r.0 r.1) new file'
    ReturnsInOrder old file (Ok None) new file' = EndReturned old file new file'
    ReturnsInOrder old file (Err e) new file' = FailsInOrder old file e new file'

    -- What is known before a call that returns without reading: a record is available, or something else than a timed record and the
    -- end of a round is pending.
    abbrev pub IsNextKnown : OrderedRecords R → Type 0
    IsNextKnown s = (0 < length (available_of s.held.sorter)) ⊎ IsReturnable (unplaced_of s)

    -- Steps that returned nothing, up to one that returns without reading, if the source has buffered so much. If memory runs out for the
    -- order, nothing is lost.
    abbrev pub ReadsBuffered : OrderedRecords R → PerfFile → Result Bool AllocError → OrderedRecords R → PerfFile → Type 0
    ReadsBuffered old file (Ok true) new file' = Progress old file new file' × IsNextKnown new
    ReadsBuffered old file (Ok false) new file' = Progress old file new file'
    ReadsBuffered old file (Err e) new file' = Progress old file new file'

    -- ---- the parts of a call

    -- Steps that read and returned nothing.
    pub record Places (old new : OrderedRecords R) : Type 0 where
      pub steps : List Step
      pub none_returned : returned_in steps ≡ []
      pub taken : (file : PerfFile) → TakesSteps steps old file new file

    -- A record was read. It is in the sorter, or still pending.
    pub record ReadsAndHolds (old : OrderedRecords R) (file : PerfFile) (key : Option ℕ) (h : RecordView) (new : OrderedRecords R)
        (file' : PerfFile) : Type 0 where
      pub read : OrderedRecords R
      pub was_read : ReadsWaiting old file key h read file'
      pub places : Places read new
      pub pending : (unplaced_of new ≡ nothing) ⊎ (unplaced_of new ≡ waiting key h)
      pub same_records : new.records ≡ read.records

    -- Something was pending before, or something was read.
    abbrev pub ReadsPending : OrderedRecords R → PerfFile → OrderedRecords R → PerfFile → Type 0
    ReadsPending old file new file' = (IsUnplaced (unplaced_of old) × (new ≡ old) × (file' ≡ file))
        ⊎ (((key : Option ℕ) × ((h : RecordView) × ReadsAndHolds old file key h new file')) ⊎ (((ended : ℕ) × ReadsRoundEnd old file ended new file')
        ⊎ (ReadsEnd old file new file' ⊎ ((e : Error) × ReadsError old file e new file'))))

    -- Reading, if nothing is pending. If memory runs out, nothing was read.
    abbrev pub ReadsNext : OrderedRecords R → PerfFile → Result (Unit {0}) AllocError → OrderedRecords R → PerfFile → Type 0
    ReadsNext old file (Ok done) new file' = ReadsPending old file new file'
    ReadsNext old file (Err e) new file' = KeepsSorter old new × (file' ≡ file)

    -- The rounds before that of the pending record ended, and the record may be inserted.
    pub record IsAdmitted (old : OrderedRecords R) (h : RecordView) (new : OrderedRecords R) : Type 0 where
      pub places : Places old new
      pub pending : unplaced_of new ≡ unplaced_of old
      pub same_records : new.records ≡ old.records
      pub in_round : h.round ≤ new.round
      pub none_available : available_of new.held.sorter ≡ []
      pub fits_budget : FitsBudget new (held_size h)

    -- Records are available, and the pending record is still pending.
    pub record HasAvailable (old new : OrderedRecords R) : Type 0 where
      pub places : Places old new
      pub pending : unplaced_of new ≡ unplaced_of old
      pub same_records : new.records ≡ old.records
      pub available : 0 < length (available_of new.held.sorter)

    abbrev pub AdmitsPending : OrderedRecords R → RecordView → Result Bool AllocError → OrderedRecords R → Type 0
    AdmitsPending old h (Ok true) new = IsAdmitted old h new
    AdmitsPending old h (Ok false) new = HasAvailable old new
    AdmitsPending old h (Err e) new = Places old new

    -- The timed record that was pending is in the sorter, or records are to be returned before it. The rounds before that of a pending
    -- record without a time ended. The round whose end was pending ended. At the end of the input, all rounds ended.
    abbrev pub AfterPlacing : Unplaced → OrderedRecords R → Type 0
    AfterPlacing nothing new = unplaced_of new ≡ nothing
    AfterPlacing (waiting None h) new = (unplaced_of new ≡ waiting None h) × (h.round ≤ new.round)
    AfterPlacing (waiting (Some key) h) new =
        (unplaced_of new ≡ nothing) ⊎ ((unplaced_of new ≡ waiting (Some key) h) × (0 < length (available_of new.held.sorter)))
    AfterPlacing round_ending new = unplaced_of new ≡ nothing
    AfterPlacing ending new = (unplaced_of new ≡ ending) × (pending_of new.held.sorter ≡ [])
    AfterPlacing (failing e) new = (unplaced_of new ≡ failing e) × (pending_of new.held.sorter ≡ [])
    AfterPlacing failed new = (unplaced_of new ≡ failed) × (pending_of new.held.sorter ≡ [])

    abbrev pub PlacesPending : OrderedRecords R → Result (Unit {0}) AllocError → OrderedRecords R → Type 0
    PlacesPending old (Ok done) new = Places old new × AfterPlacing (unplaced_of old) new × (new.records ≡ old.records)
    PlacesPending old (Err e) new = Places old new
