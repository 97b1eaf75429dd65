-- The records of an input in memory in order of time: the steps of which a call consists.
use Rattle.std.specs.Prelude.{◌≡◌, ℕ, ◌+◌, ◌≤◌, ◌⊎◌, List, [], ◌∷◌, Option, None, Some, Result, Ok, Err}
use Rattle.std.specs.Ordering.{nat_cmp}
use Rattle.perfdata_sections.specs.declared.error.Error.{Error}
use Rattle.perfdata_sections.specs.declared.error.Error.TheVariants.{Memory}
use Rattle.perfdata_records.specs.declared.record.PerfFileRecord.{PerfFileRecord}
use Rattle.linux_perf_data.specs.declared.records.iter.RecordPlace.{RecordPlace}
use Rattle.linux_perf_data.specs.declared.perf_file.PerfFile.{PerfFile}
use Rattle.linux_perf_data.specs.declared.in_memory.InMemoryRecords.{InMemoryRecords}
use Rattle.linux_perf_data.specs.InMemoryReading.{ReturnsRecordInMemory, ReturnsNextInMemory}
use Rattle.perfdata_order.specs.declared.in_memory.PendingStep.{PendingStep}
use Rattle.perfdata_order.specs.declared.in_memory.PendingStep.TheVariants.{Nothing, Record, End, Failure}
use Rattle.perfdata_order.specs.declared.in_memory.InMemoryOrderedRecords.{InMemoryOrderedRecords}
use Rattle.perfdata_order.specs.Sorter.{held_of, available_of, IsNew, IsUnchanged, Inserted, RoundEnded, AllRoundsEnded, Returned}
use Rattle.perfdata_order.specs.Times.{time_key_of}
use Rattle.perfdata_order.specs.SorterLaws.{Call}
use Rattle.perfdata_order.specs.SorterLaws.Call.{inserts, ends_round, ends_all, releases, returns, keeps}

-- A record with its place.
abbrev pub Entry : Type 0
Entry = RecordPlace × PerfFileRecord

-- A step of a call. A record was read, with its key if it is timed. A record without a time was returned. The end or an error was
-- read. The sorter was called. The error was returned.
pub data Step : Type 0 where
  reads : Option ℕ → RecordPlace → PerfFileRecord → Step
  passes : RecordPlace → PerfFileRecord → Step
  reads_end : Step
  reads_error : Error → Step
  sorts : Call ℕ Entry → Step
  reports : Error → Step

-- The records that the steps returned.
abbrev pub returned_in : List Step → List Entry
returned_in [] = []
returned_in (reads key place r ∷ steps) = returned_in steps
returned_in (passes place r ∷ steps) = (place, r) ∷ returned_in steps
returned_in (reads_end ∷ steps) = returned_in steps
returned_in (reads_error e ∷ steps) = returned_in steps
returned_in (sorts (inserts key entry) ∷ steps) = returned_in steps
returned_in (sorts ends_round ∷ steps) = returned_in steps
returned_in (sorts ends_all ∷ steps) = returned_in steps
returned_in (sorts releases ∷ steps) = returned_in steps
returned_in (sorts (returns key entry) ∷ steps) = entry ∷ returned_in steps
returned_in (sorts keeps ∷ steps) = returned_in steps
returned_in (reports e ∷ steps) = returned_in steps

-- The sorter and the current round are unchanged.
pub record SameOrder (old new : InMemoryOrderedRecords) : Type 0 where
  pub sorter : new.sorter ≡ old.sorter
  pub round : new.round ≡ old.round

-- A record was read, and is pending.
pub record ReadsWaiting (old : InMemoryOrderedRecords) (file : PerfFile) (key : Option ℕ) (place : RecordPlace) (r : PerfFileRecord)
    (new : InMemoryOrderedRecords) (file' : PerfFile) : Type 0 where
  pub nothing_pending : old.pending ≡ Nothing
  pub returned : ReturnsRecordInMemory old.records file place r new.records file'
  pub has_time : time_key_of place ≡ key
  pub pending : new.pending ≡ Record key place r
  pub same_order : SameOrder old new

-- The end of the records was read.
pub record ReadsEnd (old : InMemoryOrderedRecords) (file : PerfFile) (new : InMemoryOrderedRecords) (file' : PerfFile) : Type 0 where
  pub nothing_pending : old.pending ≡ Nothing
  pub ended : ReturnsNextInMemory old.records file (Ok None) new.records file'
  pub pending : new.pending ≡ End
  pub same_order : SameOrder old new

-- An error was read.
pub record ReadsError (old : InMemoryOrderedRecords) (file : PerfFile) (e : Error) (new : InMemoryOrderedRecords) (file' : PerfFile) : Type 0 where
  pub nothing_pending : old.pending ≡ Nothing
  pub failed : ReturnsNextInMemory old.records file (Err e) new.records file'
  pub pending : new.pending ≡ Failure e
  pub same_order : SameOrder old new

-- The pending record was inserted into the sorter. The rounds before its own had ended.
pub record InsertsPending (old : InMemoryOrderedRecords) (key : ℕ) (entry : Entry) (new : InMemoryOrderedRecords) : Type 0 where
  pub was_pending : old.pending ≡ Record (Some key) entry.0 entry.1
  pub in_round : entry.0.round ≤ old.round
  pub inserted : Inserted nat_cmp old.sorter key entry new.sorter
  pub pending : new.pending ≡ Nothing
  pub same_records : new.records ≡ old.records
  pub round : new.round ≡ old.round

-- The pending record is of the next round.
abbrev pub IsOneRoundLater : PendingStep → ℕ → ℕ → Type 0
IsOneRoundLater Nothing old new = ⊥
IsOneRoundLater (Record key place r) old new = (place.round ≡ old + 1) × (new ≡ place.round)
IsOneRoundLater End old new = ⊥
IsOneRoundLater (Failure e) old new = ⊥

-- The pending record is of a round after the next one, or nothing more is read.
abbrev pub IsLaterOrLast : PendingStep → ℕ → ℕ → Type 0
IsLaterOrLast Nothing old new = ⊥
IsLaterOrLast (Record key place r) old new = (old + 2 ≤ place.round) × (new ≡ place.round)
IsLaterOrLast End old new = new ≡ old
IsLaterOrLast (Failure e) old new = new ≡ old

pub record EndsOneRound (old new : InMemoryOrderedRecords) : Type 0 where
  pub round : IsOneRoundLater old.pending old.round new.round
  pub ended : RoundEnded nat_cmp old.sorter new.sorter
  pub pending : new.pending ≡ old.pending
  pub same_records : new.records ≡ old.records

pub record EndsRounds (old new : InMemoryOrderedRecords) : Type 0 where
  pub round : IsLaterOrLast old.pending old.round new.round
  pub ended : AllRoundsEnded nat_cmp old.sorter new.sorter
  pub pending : new.pending ≡ old.pending
  pub same_records : new.records ≡ old.records

-- The next available record was returned.
pub record ReturnsSorted (old : InMemoryOrderedRecords) (key : ℕ) (entry : Entry) (new : InMemoryOrderedRecords) : Type 0 where
  pub returned : Returned old.sorter key entry new.sorter
  pub pending : new.pending ≡ old.pending
  pub same_records : new.records ≡ old.records
  pub round : new.round ≡ old.round

-- A call of the sorter changed nothing.
pub record KeepsSorter (old new : InMemoryOrderedRecords) : Type 0 where
  pub unchanged : IsUnchanged old.sorter new.sorter
  pub pending : new.pending ≡ old.pending
  pub same_records : new.records ≡ old.records
  pub round : new.round ≡ old.round

-- The pending record was returned: it has no time. The rounds before its own had ended, and the records that were available then
-- had been returned.
pub record PassesPending (old : InMemoryOrderedRecords) (place : RecordPlace) (r : PerfFileRecord) (new : InMemoryOrderedRecords) : Type 0 where
  pub was_pending : old.pending ≡ Record None place r
  pub in_round : place.round ≤ old.round
  pub none_available : available_of old.sorter ≡ []
  pub pending : new.pending ≡ Nothing
  pub same_records : new.records ≡ old.records
  pub same_order : SameOrder old new

-- The error that was read was returned. All records before it had been returned.
pub record ReportsError (old : InMemoryOrderedRecords) (e : Error) (new : InMemoryOrderedRecords) : Type 0 where
  pub was_pending : old.pending ≡ Failure e
  pub all_returned : held_of old.sorter ≡ []
  pub pending : new.pending ≡ Nothing
  pub same_records : new.records ≡ old.records
  pub same_order : SameOrder old new

abbrev pub CallsSorter : Call ℕ Entry → InMemoryOrderedRecords → InMemoryOrderedRecords → Type 0
CallsSorter (inserts key entry) old new = InsertsPending old key entry new
CallsSorter ends_round old new = EndsOneRound old new
CallsSorter ends_all old new = EndsRounds old new
CallsSorter releases old new = ⊥
CallsSorter (returns key entry) old new = ReturnsSorted old key entry new
CallsSorter keeps old new = KeepsSorter old new

abbrev pub TakesStep : Step → InMemoryOrderedRecords → PerfFile → InMemoryOrderedRecords → PerfFile → Type 0
TakesStep (reads key place r) old file new file' = ReadsWaiting old file key place r new file'
TakesStep (passes place r) old file new file' = PassesPending old place r new × (file' ≡ file)
TakesStep reads_end old file new file' = ReadsEnd old file new file'
TakesStep (reads_error e) old file new file' = ReadsError old file e new file'
TakesStep (sorts call) old file new file' = CallsSorter call old new × (file' ≡ file)
TakesStep (reports e) old file new file' = ReportsError old e new × (file' ≡ file)

-- Consecutive steps led from one state to the other.
abbrev pub TakesSteps : List Step → InMemoryOrderedRecords → PerfFile → InMemoryOrderedRecords → PerfFile → Type 0
TakesSteps [] old file new file' = (new ≡ old) × (file' ≡ file)
TakesSteps (step ∷ steps) old file new file' =
    (next : InMemoryOrderedRecords) × ((next_file : PerfFile) × TakesStep step old file next next_file × TakesSteps steps next next_file new file')

-- Steps that returned nothing.
pub record Progress (old : InMemoryOrderedRecords) (file : PerfFile) (new : InMemoryOrderedRecords) (file' : PerfFile) : Type 0 where
  pub steps : List Step
  pub none_returned : returned_in steps ≡ []
  pub taken : TakesSteps steps old file new file'

-- Steps that returned nothing, and then one that returned this record.
pub record EntryReturned (old : InMemoryOrderedRecords) (file : PerfFile) (entry : Entry) (new : InMemoryOrderedRecords) (file' : PerfFile) : Type 0 where
  pub middle : InMemoryOrderedRecords
  pub middle_file : PerfFile
  pub before : Progress old file middle middle_file
  pub step : Step
  pub returns_entry : returned_in (step ∷ []) ≡ entry ∷ []
  pub taken : TakesStep step middle middle_file new file'

-- The end was returned, and all records before it had been.
pub record EndReturned (old : InMemoryOrderedRecords) (file : PerfFile) (new : InMemoryOrderedRecords) (file' : PerfFile) : Type 0 where
  pub before : Progress old file new file'
  pub at_end : new.pending ≡ End
  pub all_returned : held_of new.sorter ≡ []

-- The error of the input was returned, and all records before it had been.
pub record ErrorReturned (old : InMemoryOrderedRecords) (file : PerfFile) (e : Error) (new : InMemoryOrderedRecords) (file' : PerfFile) : Type 0 where
  pub middle : InMemoryOrderedRecords
  pub before : Progress old file middle file'
  pub reported : ReportsError middle e new

-- The result of a call. If memory runs out for the order, nothing is lost.
abbrev pub ReturnsInOrder : InMemoryOrderedRecords → PerfFile → Result (Option Entry) Error → InMemoryOrderedRecords → PerfFile → Type 0
ReturnsInOrder old file (Ok (Some entry)) new file' = EntryReturned old file entry new file'
ReturnsInOrder old file (Ok None) new file' = EndReturned old file new file'
ReturnsInOrder old file (Err e) new file' = ErrorReturned old file e new file' ⊎ ((e ≡ Memory) × Progress old file new file')

-- A new order has an empty sorter, and nothing was read.
pub record IsNewOrder (records : InMemoryRecords) (new : InMemoryOrderedRecords) : Type 0 where
  pub same_records : new.records ≡ records
  pub empty : IsNew new.sorter
  pub round : new.round ≡ 0
  pub pending : new.pending ≡ Nothing
