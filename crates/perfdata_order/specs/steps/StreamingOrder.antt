-- Steps of private functions: the records of a source in order of time: the steps of which a call consists.
use Rattle.std.specs.Prelude.{◌≡◌, ℕ, ◌+◌, ◌-◌, ◌<◌, ◌≤◌, ◌⊎◌, Bool, true, false, [], length, Option, None, Some, Result, Ok, Err}
use Rattle.std.specs.Ordering.{nat_cmp}
use Rattle.std.specs.declared.alloc.AllocError.{AllocError}
use Rattle.perfdata_sections.specs.declared.error.Error.{Error}
use Rattle.perfdata_sections.specs.declared.error.Error.TheVariants as error
use Rattle.perfdata_order.specs.declared.held_record.RecordEnvelope.{RecordEnvelope}
use Rattle.perfdata_order.specs.declared.held_record.HeldRecord.{HeldRecord}
use Rattle.perfdata_order.specs.declared.streaming.PendingStep.TheVariants as variant
use Rattle.perfdata_order.specs.declared.streaming.BodyBuffer.TheVariants.{Sorted}
use Rattle.perfdata_order.specs.declared.streaming.OrderedRecords.{OrderedRecords}
use Rattle.perfdata_order.specs.HeldRecord.{view_with, held_view}
use Rattle.perfdata_order.specs.Sorter.{available_of, RoundEnded, AllRoundsEnded}
use Rattle.perfdata_order.specs.StreamingOrder.{Unplaced, nothing, waiting, round_ending, ending, failing, failed, unplaced_of, budget_of, SameBudget, SameOrder, FitsBudget, IsReturnable, HalfReleasedEarly, ReturnsSorted, KeepsSorter, body_in}

-- Neither the end nor an error was read.
abbrev pub IsOngoing : Unplaced → Type 0
IsOngoing nothing = Unit {0}
IsOngoing (waiting key h) = Unit {0}
IsOngoing round_ending = Unit {0}
IsOngoing ending = ⊥
IsOngoing (failing e) = ⊥
IsOngoing failed = ⊥

-- No record without a time is pending.
abbrev pub HasNoUntimed : Unplaced → Type 0
HasNoUntimed nothing = Unit {0}
HasNoUntimed (waiting None h) = ⊥
HasNoUntimed (waiting (Some key) h) = Unit {0}
HasNoUntimed round_ending = Unit {0}
HasNoUntimed ending = Unit {0}
HasNoUntimed (failing e) = Unit {0}
HasNoUntimed failed = Unit {0}

module _ {R : Type 0} where
  -- The rounds before this round ended, and the rest is unchanged.
  pub record OneRoundEnded (old : OrderedRecords R) (to : ℕ) (new : OrderedRecords R) : Type 0 where
    pub is_next : to ≡ old.round + 1
    pub round : new.round ≡ to
    pub ended : RoundEnded nat_cmp old.held.sorter new.held.sorter
    pub pending : unplaced_of new ≡ unplaced_of old
    pub same_records : new.records ≡ old.records
    pub same_budget : SameBudget old new

  pub record RoundsEnded (old : OrderedRecords R) (to : ℕ) (new : OrderedRecords R) : Type 0 where
    pub is_later : old.round + 2 ≤ to
    pub round : new.round ≡ to
    pub ended : AllRoundsEnded nat_cmp old.held.sorter new.held.sorter
    pub pending : unplaced_of new ≡ unplaced_of old
    pub same_records : new.records ≡ old.records
    pub same_budget : SameBudget old new

  abbrev pub EndsRoundsBefore : OrderedRecords R → ℕ → Result (Unit {0}) AllocError → OrderedRecords R → Type 0
  EndsRoundsBefore old to (Ok done) new = ((to ≤ old.round) × (new ≡ old)) ⊎ (OneRoundEnded old to new ⊎ RoundsEnded old to new)
  EndsRoundsBefore old to (Err e) new = KeepsSorter old new

  -- A record of this size fits the budget, after a release if it exceeded it.
  abbrev pub ReleasesEarly : OrderedRecords R → ℕ → Result (Unit {0}) AllocError → OrderedRecords R → Type 0
  ReleasesEarly old size (Ok done) new = (FitsBudget old size × (new ≡ old)) ⊎ HalfReleasedEarly old size new
  ReleasesEarly old size (Err e) new = KeepsSorter old new

  -- A record of this round may be inserted: no record is available, no round ends before it, and there is no budget.
  pub record MayInsert (s : OrderedRecords R) (round : ℕ) : Type 0 where
    pub in_round : round ≤ s.round
    pub no_budget : budget_of s ≡ 0
    pub none_available : available_of s.held.sorter ≡ []

  -- The order in which this record is pending, after it was read.
  abbrev pub with_pending : OrderedRecords R → Option ℕ → RecordEnvelope → OrderedRecords R
  with_pending s key envelope = record s { pending = variant.Record key envelope }

  -- The record without a time was taken, if one is pending.
  abbrev pub TakesUntimed : OrderedRecords R → Option RecordEnvelope → OrderedRecords R → Type 0
  TakesUntimed old None new = (new ≡ old) × HasNoUntimed (unplaced_of old)
  TakesUntimed old (Some envelope) new =
      (unplaced_of old ≡ waiting None (view_with envelope new.body.items)) × (unplaced_of new ≡ nothing) × (new.records ≡ old.records) × SameOrder old new

  -- The end or the error was taken, if one is pending. After an error, each call fails.
  abbrev pub TakesEnd : OrderedRecords R → Option (Result (Unit {0}) Error) → OrderedRecords R → Type 0
  TakesEnd old None new = (new ≡ old) × IsOngoing (unplaced_of old)
  TakesEnd old (Some (Ok done)) new = (new ≡ old) × (unplaced_of old ≡ ending)
  TakesEnd old (Some (Err e)) new = ((unplaced_of old ≡ failing e) × (unplaced_of new ≡ failed) × (new.records ≡ old.records) × SameOrder old new)
      ⊎ ((e ≡ error.Failed) × (new ≡ old) × (unplaced_of old ≡ failed))

  -- A call returns without reading, or nothing is available, and neither a record without a time nor the end or an error is pending.
  abbrev pub TestsNextKnown : OrderedRecords R → Bool → Type 0
  TestsNextKnown s true = (0 < length (available_of s.held.sorter)) ⊎ IsReturnable (unplaced_of s)
  TestsNextKnown s false = (available_of s.held.sorter ≡ []) × HasNoUntimed (unplaced_of s) × IsOngoing (unplaced_of s)

  -- The next available record was taken from the sorter. Its body is in a buffer.
  abbrev pub TakesSorted : OrderedRecords R → Option RecordEnvelope → OrderedRecords R → Type 0
  TakesSorted old None new = (available_of old.held.sorter ≡ []) × KeepsSorter old new
  TakesSorted old (Some envelope) new =
      (key : ℕ) × ((held : HeldRecord) × ReturnsSorted old key held new × (view_with envelope (body_in Sorted new) ≡ held_view held))

-- 1 if a record or the end of a round is pending.
abbrev pub pending_records : Unplaced → ℕ
pending_records nothing = 0
pending_records (waiting key h) = 1
pending_records round_ending = 1
pending_records ending = 0
pending_records (failing e) = 0
pending_records failed = 0
