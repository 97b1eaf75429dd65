-- Steps of private functions: the records of an input in memory in order of time: the steps of which a call consists.
use Rattle.std.specs.Prelude.{◌≡◌, ◌≢◌, ℕ, ◌+◌, ◌≤◌, ◌⊎◌, List, [], Option, None, Some, Result, Ok, Err}
use Rattle.std.specs.Ordering.{nat_cmp}
use Rattle.std.specs.declared.alloc.AllocError.{AllocError}
use Rattle.perfdata_sections.specs.declared.error.Error.{Error}
use Rattle.perfdata_records.specs.declared.record.PerfFileRecord.{PerfFileRecord}
use Rattle.linux_perf_data.specs.declared.records.iter.RecordPlace.{RecordPlace}
use Rattle.linux_perf_data.specs.declared.perf_file.PerfFile.{PerfFile}
use Rattle.perfdata_order.specs.declared.in_memory.PendingStep.{PendingStep}
use Rattle.perfdata_order.specs.declared.in_memory.PendingStep.TheVariants.{Nothing, Record, End, Failure}
use Rattle.perfdata_order.specs.declared.in_memory.InMemoryOrderedRecords.{InMemoryOrderedRecords}
use Rattle.perfdata_order.specs.Sorter.{pending_of, RoundEnded, AllRoundsEnded}
use Rattle.perfdata_order.specs.InMemoryOrder.{Entry, Step, returned_in, SameOrder, ReadsWaiting, ReadsEnd, ReadsError, KeepsSorter, TakesSteps}

-- ---- the parts of a call

abbrev pub IsPending : PendingStep → Type 0
IsPending Nothing = ⊥
IsPending (Record key place r) = Unit {0}
IsPending End = Unit {0}
IsPending (Failure e) = Unit {0}

-- No record without a time is pending.
abbrev pub HasNoUntimed : PendingStep → Type 0
HasNoUntimed Nothing = Unit {0}
HasNoUntimed (Record None place r) = ⊥
HasNoUntimed (Record (Some key) place r) = Unit {0}
HasNoUntimed End = Unit {0}
HasNoUntimed (Failure e) = Unit {0}

-- Something was pending before, or it was read.
abbrev pub ReadsPending : InMemoryOrderedRecords → PerfFile → InMemoryOrderedRecords → PerfFile → Type 0
ReadsPending old file new file' = (IsPending old.pending × (new ≡ old) × (file' ≡ file))
    ⊎ (((key : Option ℕ) × ((place : RecordPlace) × ((r : PerfFileRecord) × ReadsWaiting old file key place r new file')))
    ⊎ (ReadsEnd old file new file' ⊎ ((e : Error) × ReadsError old file e new file')))

-- The rounds before this round ended, and the rest is unchanged.
pub record OneRoundEnded (old : InMemoryOrderedRecords) (to : ℕ) (new : InMemoryOrderedRecords) : Type 0 where
  pub is_next : to ≡ old.round + 1
  pub round : new.round ≡ to
  pub ended : RoundEnded nat_cmp old.sorter new.sorter
  pub pending : new.pending ≡ old.pending
  pub same_records : new.records ≡ old.records

pub record RoundsEnded (old : InMemoryOrderedRecords) (to : ℕ) (new : InMemoryOrderedRecords) : Type 0 where
  pub is_later : old.round + 2 ≤ to
  pub round : new.round ≡ to
  pub ended : AllRoundsEnded nat_cmp old.sorter new.sorter
  pub pending : new.pending ≡ old.pending
  pub same_records : new.records ≡ old.records

abbrev pub EndsRoundsBefore : InMemoryOrderedRecords → ℕ → Result (Unit {0}) AllocError → InMemoryOrderedRecords → Type 0
EndsRoundsBefore old to (Ok done) new = ((to ≤ old.round) × (new ≡ old)) ⊎ (OneRoundEnded old to new ⊎ RoundsEnded old to new)
EndsRoundsBefore old to (Err e) new = KeepsSorter old new

-- Steps that read and returned nothing.
pub record Places (old new : InMemoryOrderedRecords) : Type 0 where
  pub steps : List Step
  pub none_returned : returned_in steps ≡ []
  pub taken : (file : PerfFile) → TakesSteps steps old file new file

-- The timed record that was pending is in the sorter. The rounds before that of a pending record without a time ended. At the end
-- of the input, all rounds ended.
abbrev pub AfterPlacing : PendingStep → InMemoryOrderedRecords → Type 0
AfterPlacing Nothing new = new.pending ≡ Nothing
AfterPlacing (Record None place r) new = (new.pending ≡ Record None place r) × (place.round ≤ new.round)
AfterPlacing (Record (Some key) place r) new = new.pending ≡ Nothing
AfterPlacing End new = (new.pending ≡ End) × (pending_of new.sorter ≡ [])
AfterPlacing (Failure e) new = (new.pending ≡ Failure e) × (pending_of new.sorter ≡ [])

abbrev pub PlacesPending : InMemoryOrderedRecords → Result (Unit {0}) AllocError → InMemoryOrderedRecords → Type 0
PlacesPending old (Ok done) new = Places old new × AfterPlacing old.pending new × (new.records ≡ old.records)
PlacesPending old (Err e) new = Places old new

-- The record without a time was taken, if one is pending.
abbrev pub TakesUntimed : InMemoryOrderedRecords → Option Entry → InMemoryOrderedRecords → Type 0
TakesUntimed old None new = (new ≡ old) × HasNoUntimed old.pending
TakesUntimed old (Some entry) new = (old.pending ≡ Record None entry.0 entry.1) × (new.pending ≡ Nothing) × (new.records ≡ old.records) × SameOrder old new

-- The end or the error was taken, if one is pending.
abbrev pub TakesEnd : InMemoryOrderedRecords → Option (Result (Unit {0}) Error) → InMemoryOrderedRecords → Type 0
TakesEnd old None new = (new ≡ old) × (old.pending ≢ End) × ((e : Error) → old.pending ≢ Failure e)
TakesEnd old (Some (Ok done)) new = (new ≡ old) × (old.pending ≡ End)
TakesEnd old (Some (Err e)) new = (old.pending ≡ Failure e) × (new.pending ≡ Nothing) × (new.records ≡ old.records) × SameOrder old new

-- 1 if a record is pending.
abbrev pub pending_records : PendingStep → ℕ
pending_records Nothing = 0
pending_records (Record key place r) = 1
pending_records End = 0
pending_records (Failure e) = 0
