-- Laws of the records of an input in memory in order of time.
use Rattle.std.specs.Prelude.{ℕ, ◌+◌, ◌≤◌, All, List, [], ◌∷◌, ◌++◌, map, Option, None, Some}
use Rattle.perfdata_order.specs.Times.{time_key_of}
use Rattle.perfdata_order.specs.LayoutRecords.{AreLayoutRecords}
use Rattle.std.specs.Ordering.{nat_cmp}
use Rattle.std.specs.List.Sorted.{IsPermutation}
use Rattle.linux_perf_data.specs.declared.perf_file.PerfFile.{PerfFile}
use Rattle.linux_perf_data.specs.declared.in_memory.InMemoryRecords.{InMemoryRecords}
use Rattle.linux_perf_data.specs.RecordViews.{record_view_of}
use Rattle.linux_perf_data.specs.InMemoryReading.{ReturnsRecordsInMemory}
use Rattle.perfdata_order.specs.declared.in_memory.PendingStep.{PendingStep}
use Rattle.perfdata_order.specs.declared.in_memory.PendingStep.TheVariants.{Nothing, Record, End, Failure}
use Rattle.perfdata_order.specs.declared.in_memory.InMemoryOrderedRecords.{InMemoryOrderedRecords}
use Rattle.perfdata_order.specs.Order.{Ascends}
use Rattle.perfdata_order.specs.Sorter.{held_of, pending_of}
use Rattle.perfdata_order.specs.SorterLaws.{Call, MakesCalls, returned_by, KeepsRoundRule}
use Rattle.perfdata_order.specs.InMemoryOrder.{Entry, Step, TakesSteps, returned_in, IsNewOrder}
use Rattle.perfdata_order.specs.InMemoryOrder.Step.{reads, passes, reads_end, reads_error, sorts, reports}

-- The records that the steps read, in the order of the input.
abbrev pub read_in : List Step → List Entry
read_in [] = []
read_in (reads key place r ∷ steps) = (place, r) ∷ read_in steps
read_in (passes place r ∷ steps) = read_in steps
read_in (reads_end ∷ steps) = read_in steps
read_in (reads_error e ∷ steps) = read_in steps
read_in (sorts call ∷ steps) = read_in steps
read_in (reports e ∷ steps) = read_in steps

-- The calls of the sorter.
abbrev pub calls_in : List Step → List (Call ℕ Entry)
calls_in [] = []
calls_in (reads key place r ∷ steps) = calls_in steps
calls_in (passes place r ∷ steps) = calls_in steps
calls_in (reads_end ∷ steps) = calls_in steps
calls_in (reads_error e ∷ steps) = calls_in steps
calls_in (sorts call ∷ steps) = call ∷ calls_in steps
calls_in (reports e ∷ steps) = calls_in steps

abbrev pub pending_entries : PendingStep → List Entry
pending_entries Nothing = []
pending_entries (Record key place r) = (place, r) ∷ []
pending_entries End = []
pending_entries (Failure e) = []

-- The records that were read and not yet returned.
abbrev pub held_entries : InMemoryOrderedRecords → List Entry
held_entries s = map (λ (e : ℕ × Entry). e.1) (held_of s.sorter) ++ pending_entries s.pending

-- Each record that was read was returned once, or is held.
abbrev pub ReturnsEachRecordOnce : Type 0
ReturnsEachRecordOnce = (records : InMemoryRecords) (first last : InMemoryOrderedRecords) (file file' : PerfFile) (steps : List Step) →
    IsNewOrder records first → TakesSteps steps first file last file' → IsPermutation (read_in steps) (returned_in steps ++ held_entries last)

-- The records that were read are those that consecutive calls of the iterator over the input return.
abbrev pub ReadsRecordsOfInput : Type 0
ReadsRecordsOfInput = (records : InMemoryRecords) (first last : InMemoryOrderedRecords) (file file' : PerfFile) (steps : List Step) →
    IsNewOrder records first → TakesSteps steps first file last file' →
    (now : InMemoryRecords) × ((now_file : PerfFile)
    × ReturnsRecordsInMemory records file (map (λ (e : Entry). record_view_of e.0 e.1) (read_in steps)) now now_file)

-- The calls of the sorter are consecutive, so its laws hold for the timed records.
abbrev pub CallsSorterInTurn : Type 0
CallsSorterInTurn = (first last : InMemoryOrderedRecords) (file file' : PerfFile) (steps : List Step) →
    TakesSteps steps first file last file' → MakesCalls nat_cmp (calls_in steps) first.sorter last.sorter

abbrev pub timed_by : Option ℕ → Entry → List (ℕ × (ℕ × Entry))
timed_by None e = []
timed_by (Some time) e = (e.0.round, (time, e)) ∷ []

-- The timed ones of these records, each with its round and its time.
abbrev pub timed_of : List Entry → List (ℕ × (ℕ × Entry))
timed_of [] = []
timed_of (e ∷ es) = timed_by (time_key_of e.0) e ++ timed_of es

-- The timed records that were returned ascend if those that were read are the first of a layout and keep perf's rule: no record of
-- round n + 2 or later is older than one of round n.
abbrev pub TimesAscendUnderPerfRule : Type 0
TimesAscendUnderPerfRule = (records : InMemoryRecords) (first last : InMemoryOrderedRecords) (file file' : PerfFile) (steps : List Step) →
    IsNewOrder records first → TakesSteps steps first file last file' → AreLayoutRecords (map (λ (e : Entry). record_view_of e.0 e.1) (read_in steps))
    → KeepsRoundRule nat_cmp (timed_of (read_in steps)) →
    Ascends nat_cmp (returned_by (calls_in steps))

-- The current round: that of the record that was inserted last.
abbrev pub round_of : InMemoryOrderedRecords → ℕ
round_of s = s.round

-- Each record in the sorter that isn't available is of the current round or of the one before it.
abbrev pub HoldsTwoRounds : Type 0
HoldsTwoRounds = (records : InMemoryRecords) (first last : InMemoryOrderedRecords) (file file' : PerfFile) (steps : List Step) →
    IsNewOrder records first → TakesSteps steps first file last file' → AreLayoutRecords (map (λ (e : Entry). record_view_of e.0 e.1) (read_in steps)) →
    All (λ (e : ℕ × Entry). round_of last ≤ e.1.0.round + 1) (pending_of last.sorter)
