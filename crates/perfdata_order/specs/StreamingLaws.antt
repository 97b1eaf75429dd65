-- Laws of the records of a source in order of time.
use Rattle.std.specs.Prelude.{◌≡◌, ℕ, ◌+◌, ◌^◌, ◌<◌, ◌≤◌, ◌⊎◌, min, List, [], ◌∷◌, ◌++◌, length, map, All, Option, None, Some}
use Rattle.std.specs.Ordering.{nat_cmp}
use Rattle.std.specs.List.{sum_by}
use Rattle.std.specs.List.Sorted.{IsPermutation}
use Rattle.perfdata_sources.specs.Source.{State}
use Rattle.linux_perf_data.specs.declared.records.iter.PerfRecordIter.{PerfRecordIter}
use Rattle.linux_perf_data.specs.declared.perf_file.PerfFile.{PerfFile}
use Rattle.linux_perf_data.specs.Layout.{RecordView}
use Rattle.linux_perf_data.specs.Reading.{ReturnsRecords}
use Rattle.perfdata_order.specs.declared.held_record.HeldRecord.{HeldRecord}
use Rattle.perfdata_order.specs.declared.streaming.OrderedRecords.{OrderedRecords}
use Rattle.perfdata_order.specs.HeldRecord.{held_view, held_size}
use Rattle.perfdata_order.specs.Order.{Ascends}
use Rattle.perfdata_order.specs.Sorter.{held_of, available_of, pending_of, slots_for}
use Rattle.perfdata_order.specs.SorterLaws.Call.{inserts, ends_round, ends_all, releases, returns, keeps}
use Rattle.perfdata_order.specs.SorterLaws.{Call, MakesCalls, most_held, returned_by, releases_in, KeepsRoundRule}
use Rattle.perfdata_order.specs.Times.{key_of_time}
use Rattle.perfdata_order.specs.LayoutRecords.{AreLayoutRecords}
use Rattle.perfdata_order.specs.StreamingOrder.{Unplaced, unplaced_of, round_of, early_of, blocks_of, Step, TakesStep, TakesSteps, returned_in, IsNewOrder}
use Rattle.perfdata_order.specs.StreamingOrder.Unplaced.{nothing, waiting, round_ending, ending, failing, failed}
use Rattle.perfdata_order.specs.StreamingOrder.Step.{reads, reads_round_end, passes, reads_end, reads_error, sorts, reports}

-- The records that the steps read, in the order of the source.
abbrev pub read_in : List Step → List RecordView
read_in [] = []
read_in (reads key h ∷ steps) = h ∷ read_in steps
read_in (reads_round_end ended ∷ steps) = read_in steps
read_in (passes h ∷ steps) = read_in steps
read_in (reads_end ∷ steps) = read_in steps
read_in (reads_error e ∷ steps) = read_in steps
read_in (sorts call ∷ steps) = read_in steps
read_in (reports e ∷ steps) = read_in steps

-- The calls of the sorter.
abbrev pub calls_in : List Step → List (Call ℕ HeldRecord)
calls_in [] = []
calls_in (reads key h ∷ steps) = calls_in steps
calls_in (reads_round_end ended ∷ steps) = calls_in steps
calls_in (passes h ∷ steps) = calls_in steps
calls_in (reads_end ∷ steps) = calls_in steps
calls_in (reads_error e ∷ steps) = calls_in steps
calls_in (sorts call ∷ steps) = call ∷ calls_in steps
calls_in (reports e ∷ steps) = calls_in steps

abbrev pub unplaced_records : Unplaced → List RecordView
unplaced_records nothing = []
unplaced_records (waiting key h) = h ∷ []
unplaced_records round_ending = []
unplaced_records ending = []
unplaced_records (failing e) = []
unplaced_records failed = []

abbrev pub timed_by : Option ℕ → RecordView → List (ℕ × (ℕ × RecordView))
timed_by None h = []
timed_by (Some time) h = (h.round, (time, h)) ∷ []

-- The timed ones of these records, each with its round and its time.
abbrev pub timed_of : List RecordView → List (ℕ × (ℕ × RecordView))
timed_of [] = []
timed_of (h ∷ hs) = timed_by (key_of_time h.timestamp) h ++ timed_of hs

-- The step reads from the source.
abbrev pub IsRead : Step → Type 0
IsRead (reads key h) = Unit {0}
IsRead (reads_round_end ended) = Unit {0}
IsRead (passes h) = ⊥
IsRead reads_end = Unit {0}
IsRead (reads_error e) = Unit {0}
IsRead (sorts call) = ⊥
IsRead (reports e) = ⊥

-- None of the steps reads from the source.
abbrev pub ReadNothing : List Step → Type 0
ReadNothing [] = Unit {0}
ReadNothing (step ∷ steps) = (¬ IsRead step) × ReadNothing steps

-- How often a single round ended.
abbrev pub rounds_ended_by : Call ℕ HeldRecord → ℕ
rounds_ended_by (inserts key held) = 0
rounds_ended_by ends_round = 1
rounds_ended_by ends_all = 0
rounds_ended_by releases = 0
rounds_ended_by (returns key held) = 0
rounds_ended_by keeps = 0

abbrev pub rounds_ended_in : List Step → ℕ
rounds_ended_in [] = 0
rounds_ended_in (reads key h ∷ steps) = rounds_ended_in steps
rounds_ended_in (reads_round_end ended ∷ steps) = rounds_ended_in steps
rounds_ended_in (passes h ∷ steps) = rounds_ended_in steps
rounds_ended_in (reads_end ∷ steps) = rounds_ended_in steps
rounds_ended_in (reads_error e ∷ steps) = rounds_ended_in steps
rounds_ended_in (sorts call ∷ steps) = rounds_ended_by call + rounds_ended_in steps
rounds_ended_in (reports e ∷ steps) = rounds_ended_in steps

module _ {R : Type 0} (state : R → State) where
  -- The records that were read and not yet returned.
  abbrev pub held_records : OrderedRecords R → List RecordView
  held_records s = map (λ (e : ℕ × HeldRecord). held_view e.1) (held_of s.held.sorter) ++ unplaced_records (unplaced_of s)

  -- Each record that was read was returned once, or is held.
  abbrev pub ReturnsEachRecordOnce : Type 0
  ReturnsEachRecordOnce = (records : PerfRecordIter R) (budget : ℕ) (first last : OrderedRecords R) (file file' : PerfFile) (steps : List Step) →
      IsNewOrder records budget first → TakesSteps state steps first file last file' → IsPermutation (read_in steps) (returned_in steps ++ held_records last)

  -- The records that were read are those that consecutive calls of the iterator over the source return.
  abbrev pub ReadsRecordsOfSource : Type 0
  ReadsRecordsOfSource = (records : PerfRecordIter R) (budget : ℕ) (first last : OrderedRecords R) (file file' : PerfFile) (steps : List Step) →
      IsNewOrder records budget first → TakesSteps state steps first file last file' →
      (now : PerfRecordIter R) × ((now_file : PerfFile) × ReturnsRecords state records file (read_in steps) now now_file)

  -- From the end of a round that was read to the next read, this round ended once, and nothing else of the source was consumed. All
  -- records that are available have then been returned.
  abbrev pub ReturnsReleasedBeforeReading : Type 0
  ReturnsReleasedBeforeReading = (ended : ℕ) (steps : List Step) (step : Step) (first after before last : OrderedRecords R)
      (file after_file before_file file' : PerfFile) → TakesStep state (reads_round_end ended) first file after after_file
      → TakesSteps state steps after after_file before before_file → ReadNothing steps → TakesStep state step before before_file last file' → IsRead step →
      (rounds_ended_in steps ≡ 1) × (before.records ≡ after.records) × (available_of before.held.sorter ≡ [])

  -- The calls of the sorter are consecutive, so its laws hold for the timed records.
  abbrev pub CallsSorterInTurn : Type 0
  CallsSorterInTurn = (first last : OrderedRecords R) (file file' : PerfFile) (steps : List Step) →
      TakesSteps state steps first file last file' → MakesCalls nat_cmp (calls_in steps) first.held.sorter last.held.sorter

  -- The calls that return records early are counted.
  abbrev pub CountsEarly : Type 0
  CountsEarly = (records : PerfRecordIter R) (budget : ℕ) (first last : OrderedRecords R) (file file' : PerfFile) (steps : List Step) →
      IsNewOrder records budget first → TakesSteps state steps first file last file' → early_of last ≡ min (releases_in (calls_in steps)) 18446744073709551615

  -- Without a budget, no record is returned early.
  abbrev pub NoneEarlyWithoutBudget : Type 0
  NoneEarlyWithoutBudget = (records : PerfRecordIter R) (first last : OrderedRecords R) (file file' : PerfFile) (steps : List Step) →
      IsNewOrder records 0 first → TakesSteps state steps first file last file' → early_of last ≡ 0

  -- The records in the sorter are within the budget, or there is only one.
  abbrev pub StaysWithinBudget : Type 0
  StaysWithinBudget = (records : PerfRecordIter R) (budget : ℕ) (first last : OrderedRecords R) (file file' : PerfFile) (steps : List Step) →
      IsNewOrder records budget first → TakesSteps state steps first file last file' → 0 < budget → budget < 2 ^ 64 →
      (sum_by (λ (e : ℕ × HeldRecord). held_size (held_view e.1)) (held_of last.held.sorter) ≤ budget) ⊎ (length (held_of last.held.sorter) ≤ 1)

  -- Without a budget, each record in the sorter that isn't available is of the current round or of the one before it.
  abbrev pub HoldsTwoRounds : Type 0
  HoldsTwoRounds = (records : PerfRecordIter R) (first last : OrderedRecords R) (file file' : PerfFile) (steps : List Step) →
      IsNewOrder records 0 first → TakesSteps state steps first file last file' → AreLayoutRecords (read_in steps) →
      All (λ (e : ℕ × HeldRecord). round_of last ≤ (held_view e.1).round + 1) (pending_of last.held.sorter)

  -- The timed records that were returned ascend if none was returned early, and those that were read are the first of a layout and
  -- keep perf's rule: no record of round n + 2 or later is older than one of round n.
  abbrev pub TimesAscendUnderPerfRule : Type 0
  TimesAscendUnderPerfRule = (records : PerfRecordIter R) (budget : ℕ) (first last : OrderedRecords R) (file file' : PerfFile) (steps : List Step) →
      IsNewOrder records budget first → TakesSteps state steps first file last file' → early_of last ≡ 0 → AreLayoutRecords (read_in steps)
      → KeepsRoundRule nat_cmp (timed_of (read_in steps)) →
      Ascends nat_cmp (returned_by (calls_in steps))

  -- The number of blocks for bodies is at most that of the most records in the sorter at once, a third more, and two.
  abbrev pub HasFewBlocks : Type 0
  HasFewBlocks = (records : PerfRecordIter R) (budget : ℕ) (first last : OrderedRecords R) (file file' : PerfFile) (steps : List Step) →
      IsNewOrder records budget first → TakesSteps state steps first file last file' → blocks_of last ≤ slots_for (most_held 0 (calls_in steps)) + 1
