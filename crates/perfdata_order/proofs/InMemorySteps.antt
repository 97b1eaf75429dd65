-- Laws of the steps over an input in memory.
use Rattle.std.proofs.Common.{◌≡◌, ℕ, List, [], ◌∷◌, ◌++◌, map, refl, sym, ap, ◌∙◌, subst, append_assoc, append-nil}
use Rattle.std.specs.Prelude.{◌≢◌}
use Rattle.std.specs.Ordering.{nat_cmp}
use Rattle.std.specs.Cmp.{nat_cmp_total}
use Rattle.std.specs.List.Sorted.{IsPermutation}
use Rattle.std.proofs.lemmas.List.Sorted.{IsPermutation-refl, IsPermutation-trans, IsPermutation-cons, IsPermutation-middle, IsPermutation-map, IsPermutation-append_left}
use Rattle.linux_perf_data.specs.declared.perf_file.PerfFile.{PerfFile}
use Rattle.linux_perf_data.specs.declared.records.iter.Stage.{Stage}
use Rattle.linux_perf_data.specs.declared.records.iter.Stage.TheVariants.{Running, Failed, Ended}
use Rattle.linux_perf_data.specs.Layout.{RecordView}
use Rattle.linux_perf_data.specs.declared.in_memory.InMemoryRecords.{InMemoryRecords}
use Rattle.linux_perf_data.specs.RecordViews.{record_view_of}
use Rattle.linux_perf_data.specs.InMemoryReading.{ReturnsRecordsInMemory}
use Rattle.perfdata_order.specs.declared.in_memory.InMemoryOrderedRecords.{InMemoryOrderedRecords}
use Rattle.perfdata_order.specs.Sorter.{held_of}
use Rattle.perfdata_order.specs.SorterLaws.{MakesCalls, releases_in}
use Rattle.perfdata_order.specs.SorterLaws.Call.{inserts, ends_round, ends_all, releases, returns, keeps}
use Rattle.perfdata_order.specs.InMemoryOrder.{Entry, Step, TakesSteps, returned_in}
use Rattle.perfdata_order.specs.InMemoryOrder.Step.{reads, passes, reads_end, reads_error, sorts, reports}
use Rattle.perfdata_order.specs.InMemoryLaws.{read_in, calls_in, pending_entries, held_entries, ReturnsEachRecordOnce, ReadsRecordsOfInput, CallsSorterInTurn}
use Rattle.perfdata_order.specs.steps.InMemoryLaws.{TimesAscendUnderRule}
use Rattle.perfdata_order.proofs.SorterCalls.{held_after_insert, held_before_return}
use Rattle.perfdata_order.proofs.RoundRule.{ascends_under_rule}

pub calls_sorter_in_turn : CallsSorterInTurn
calls_sorter_in_turn first last file file' [] (same, same_file) = ap (λ s. s.sorter) same
calls_sorter_in_turn first last file file' (reads key place r ∷ steps) (next, (next_file, step, rest)) =
    subst (λ s. MakesCalls nat_cmp (calls_in steps) s last.sorter) step.same_order.sorter (calls_sorter_in_turn next last next_file file' steps rest)
calls_sorter_in_turn first last file file' (passes place r ∷ steps) (next, (next_file, step, rest)) =
    subst (λ s. MakesCalls nat_cmp (calls_in steps) s last.sorter) step.0.same_order.sorter (calls_sorter_in_turn next last next_file file' steps rest)
calls_sorter_in_turn first last file file' (reads_end ∷ steps) (next, (next_file, step, rest)) =
    subst (λ s. MakesCalls nat_cmp (calls_in steps) s last.sorter) step.same_order.sorter (calls_sorter_in_turn next last next_file file' steps rest)
calls_sorter_in_turn first last file file' (reads_error e ∷ steps) (next, (next_file, step, rest)) =
    subst (λ s. MakesCalls nat_cmp (calls_in steps) s last.sorter) step.same_order.sorter (calls_sorter_in_turn next last next_file file' steps rest)
calls_sorter_in_turn first last file file' (sorts (inserts key entry) ∷ steps) (next, (next_file, step, rest)) =
    (next.sorter, step.0.inserted, calls_sorter_in_turn next last next_file file' steps rest)
calls_sorter_in_turn first last file file' (sorts ends_round ∷ steps) (next, (next_file, step, rest)) =
    (next.sorter, step.0.ended, calls_sorter_in_turn next last next_file file' steps rest)
calls_sorter_in_turn first last file file' (sorts ends_all ∷ steps) (next, (next_file, step, rest)) =
    (next.sorter, step.0.ended, calls_sorter_in_turn next last next_file file' steps rest)
calls_sorter_in_turn first last file file' (sorts releases ∷ steps) (next, (next_file, step, rest)) = absurd step.0
calls_sorter_in_turn first last file file' (sorts (returns key entry) ∷ steps) (next, (next_file, step, rest)) =
    (next.sorter, step.0.returned, calls_sorter_in_turn next last next_file file' steps rest)
calls_sorter_in_turn first last file file' (sorts keeps ∷ steps) (next, (next_file, step, rest)) =
    (next.sorter, step.0.unchanged, calls_sorter_in_turn next last next_file file' steps rest)
calls_sorter_in_turn first last file file' (reports e ∷ steps) (next, (next_file, step, rest)) =
    subst (λ s. MakesCalls nat_cmp (calls_in steps) s last.sorter) step.0.same_order.sorter (calls_sorter_in_turn next last next_file file' steps rest)

-- No value is released before its round ended.
none_released : (steps : List Step) (first last : InMemoryOrderedRecords) (file file' : PerfFile) → TakesSteps steps first file last file' → releases_in (calls_in steps) ≡ 0
none_released [] first last file file' taken = refl
none_released (reads key place r ∷ steps) first last file file' (next, (next_file, step, rest)) = none_released steps next last next_file file' rest
none_released (passes place r ∷ steps) first last file file' (next, (next_file, step, rest)) = none_released steps next last next_file file' rest
none_released (reads_end ∷ steps) first last file file' (next, (next_file, step, rest)) = none_released steps next last next_file file' rest
none_released (reads_error e ∷ steps) first last file file' (next, (next_file, step, rest)) = none_released steps next last next_file file' rest
none_released (sorts (inserts key entry) ∷ steps) first last file file' (next, (next_file, step, rest)) = none_released steps next last next_file file' rest
none_released (sorts ends_round ∷ steps) first last file file' (next, (next_file, step, rest)) = none_released steps next last next_file file' rest
none_released (sorts ends_all ∷ steps) first last file file' (next, (next_file, step, rest)) = none_released steps next last next_file file' rest
none_released (sorts releases ∷ steps) first last file file' (next, (next_file, step, rest)) = absurd step.0
none_released (sorts (returns key entry) ∷ steps) first last file file' (next, (next_file, step, rest)) = none_released steps next last next_file file' rest
none_released (sorts keeps ∷ steps) first last file file' (next, (next_file, step, rest)) = none_released steps next last next_file file' rest
none_released (reports e ∷ steps) first last file file' (next, (next_file, step, rest)) = none_released steps next last next_file file' rest

pub times_ascend_under_rule : TimesAscendUnderRule
times_ascend_under_rule records first last file file' steps new taken rule =
    ascends_under_rule Entry nat_cmp_total first.sorter last.sorter (calls_in steps) new.empty (calls_sorter_in_turn first last file file' steps taken) (none_released steps first last file file' taken) rule

-- ---- each record once

abbrev entries : List (ℕ × Entry) → List Entry
entries = map (λ (e : ℕ × Entry). e.1)

entries_append : (xs ys : List (ℕ × Entry)) → entries (xs ++ ys) ≡ entries xs ++ entries ys
entries_append [] ys = refl
entries_append (x ∷ xs) ys = ap (λ zs. x.1 ∷ zs) (entries_append xs ys)

-- The held records follow from the parts of the state.
held_as : (s t : InMemoryOrderedRecords) (xs : List (ℕ × Entry)) (ys : List Entry) → held_of s.sorter ≡ xs → pending_entries s.pending ≡ ys → held_entries s ≡ entries xs ++ ys
held_as s t xs ys held pending = ap (λ h. entries h ++ pending_entries s.pending) held ∙ ap (λ p. entries xs ++ p) pending

-- A step that neither reads nor returns a record, and after which the same records are held.
once_kept : (steps : List Step) (first next last : InMemoryOrderedRecords) (file file' : PerfFile) → held_entries next ≡ held_entries first → IsPermutation (held_entries next ++ read_in steps) (returned_in steps ++ held_entries last)
    → IsPermutation (held_entries first ++ read_in steps) (returned_in steps ++ held_entries last)
once_kept steps first next last file file' same once = subst (λ h. IsPermutation (h ++ read_in steps) (returned_in steps ++ held_entries last)) same once

once_from : (steps : List Step) (first last : InMemoryOrderedRecords) (file file' : PerfFile) → TakesSteps steps first file last file' → IsPermutation (held_entries first ++ read_in steps) (returned_in steps ++ held_entries last)
once_from [] first last file file' (same, same_file) =
    subst (λ s. IsPermutation (held_entries first ++ []) (held_entries s)) (sym same) (subst (λ h. IsPermutation h (held_entries first)) (sym (append-nil (held_entries first))) (IsPermutation-refl (held_entries first)))
once_from (reads key place r ∷ steps) first last file file' (next, (next_file, step, rest)) =
    let before : held_entries first ≡ entries (held_of first.sorter) ++ [] = held_as first first (held_of first.sorter) [] refl (ap pending_entries step.nothing_pending) in
    let after : held_entries next ≡ entries (held_of first.sorter) ++ (place, r) ∷ [] = held_as next next (held_of first.sorter) ((place, r) ∷ []) (ap held_of step.same_order.sorter) (ap pending_entries step.pending) in
    let plain = before ∙ append-nil (entries (held_of first.sorter)) in
    let regrouped : held_entries next ++ read_in steps ≡ held_entries first ++ (place, r) ∷ read_in steps =
    ap (λ h. h ++ read_in steps) after ∙ append_assoc (entries (held_of first.sorter)) ((place, r) ∷ []) (read_in steps) ∙ ap (λ h. h ++ (place, r) ∷ read_in steps) (sym plain) in
    subst (λ h. IsPermutation h (returned_in steps ++ held_entries last)) regrouped (once_from steps next last next_file file' rest)
once_from (passes place r ∷ steps) first last file file' (next, (next_file, step, rest)) =
    let before : held_entries first ≡ entries (held_of first.sorter) ++ (place, r) ∷ [] = held_as first first (held_of first.sorter) ((place, r) ∷ []) refl (ap pending_entries step.0.was_pending) in
    let after : held_entries next ≡ entries (held_of first.sorter) ++ [] = held_as next next (held_of first.sorter) [] (ap held_of step.0.same_order.sorter) (ap pending_entries step.0.pending) in
    let plain = after ∙ append-nil (entries (held_of first.sorter)) in
    let regrouped : held_entries first ++ read_in steps ≡ held_entries next ++ (place, r) ∷ read_in steps =
    ap (λ h. h ++ read_in steps) before ∙ append_assoc (entries (held_of first.sorter)) ((place, r) ∷ []) (read_in steps) ∙ ap (λ h. h ++ (place, r) ∷ read_in steps) (sym plain) in
    subst (λ h. IsPermutation h ((place, r) ∷ (returned_in steps ++ held_entries last))) (sym regrouped)
    (IsPermutation-trans _ _ _ (IsPermutation-middle (held_entries next) (place, r) (read_in steps)) (IsPermutation-cons (place, r) _ _ (once_from steps next last next_file file' rest)))
once_from (reads_end ∷ steps) first last file file' (next, (next_file, step, rest)) =
    let same : held_entries next ≡ held_entries first =
    held_as next next (held_of first.sorter) [] (ap held_of step.same_order.sorter) (ap pending_entries step.pending) ∙ sym (held_as first first (held_of first.sorter) [] refl (ap pending_entries step.nothing_pending)) in
    once_kept steps first next last file file' same (once_from steps next last next_file file' rest)
once_from (reads_error e ∷ steps) first last file file' (next, (next_file, step, rest)) =
    let same : held_entries next ≡ held_entries first =
    held_as next next (held_of first.sorter) [] (ap held_of step.same_order.sorter) (ap pending_entries step.pending) ∙ sym (held_as first first (held_of first.sorter) [] refl (ap pending_entries step.nothing_pending)) in
    once_kept steps first next last file file' same (once_from steps next last next_file file' rest)
once_from (sorts (inserts key entry) ∷ steps) first last file file' (next, (next_file, step, rest)) =
    let held = held_after_insert first.sorter next.sorter key entry step.0.inserted in
    let after : held_entries next ≡ entries (held_of first.sorter ++ (key, entry) ∷ []) ++ [] = held_as next next (held_of first.sorter ++ (key, entry) ∷ []) [] held (ap pending_entries step.0.pending) in
    let before : held_entries first ≡ entries (held_of first.sorter) ++ entry ∷ [] = held_as first first (held_of first.sorter) (entry ∷ []) refl (ap pending_entries step.0.was_pending) in
    let same : held_entries next ≡ held_entries first = after ∙ append-nil (entries (held_of first.sorter ++ (key, entry) ∷ [])) ∙ entries_append (held_of first.sorter) ((key, entry) ∷ []) ∙ sym before in
    once_kept steps first next last file file' same (once_from steps next last next_file file' rest)
once_from (sorts ends_round ∷ steps) first last file file' (next, (next_file, step, rest)) =
    let sorted = IsPermutation-map (λ (e : ℕ × Entry). e.1) (held_of first.sorter) (held_of next.sorter) step.0.ended.sorts.each_once in
    let same = subst (λ p. IsPermutation (held_entries first) (entries (held_of next.sorter) ++ pending_entries p)) (sym step.0.pending) (IsPermutation-append_left (pending_entries first.pending) (entries (held_of first.sorter)) (entries (held_of next.sorter)) sorted) in
    IsPermutation-trans _ _ _ (IsPermutation-append_left (read_in steps) (held_entries first) (held_entries next) same) (once_from steps next last next_file file' rest)
once_from (sorts ends_all ∷ steps) first last file file' (next, (next_file, step, rest)) =
    let sorted = IsPermutation-map (λ (e : ℕ × Entry). e.1) (held_of first.sorter) (held_of next.sorter) step.0.ended.sorts.each_once in
    let same = subst (λ p. IsPermutation (held_entries first) (entries (held_of next.sorter) ++ pending_entries p)) (sym step.0.pending) (IsPermutation-append_left (pending_entries first.pending) (entries (held_of first.sorter)) (entries (held_of next.sorter)) sorted) in
    IsPermutation-trans _ _ _ (IsPermutation-append_left (read_in steps) (held_entries first) (held_entries next) same) (once_from steps next last next_file file' rest)
once_from (sorts releases ∷ steps) first last file file' (next, (next_file, step, rest)) = absurd step.0
once_from (sorts (returns key entry) ∷ steps) first last file file' (next, (next_file, step, rest)) =
    let held = held_before_return first.sorter next.sorter key entry step.0.returned in
    let before : held_entries first ≡ entry ∷ held_entries next = held_as first first ((key, entry) ∷ held_of next.sorter) (pending_entries next.pending) held (ap pending_entries (sym step.0.pending)) in
    subst (λ h. IsPermutation (h ++ read_in steps) (entry ∷ (returned_in steps ++ held_entries last))) (sym before)
    (IsPermutation-cons entry (held_entries next ++ read_in steps) (returned_in steps ++ held_entries last) (once_from steps next last next_file file' rest))
once_from (sorts keeps ∷ steps) first last file file' (next, (next_file, step, rest)) =
    once_kept steps first next last file file' (held_as next next (held_of first.sorter) (pending_entries first.pending) step.0.unchanged.held (ap pending_entries step.0.pending)) (once_from steps next last next_file file' rest)
once_from (reports e ∷ steps) first last file file' (next, (next_file, step, rest)) =
    let same : held_entries next ≡ held_entries first =
    held_as next next (held_of first.sorter) [] (ap held_of step.0.same_order.sorter) (ap pending_entries step.0.pending) ∙ sym (held_as first first (held_of first.sorter) [] refl (ap pending_entries step.0.was_pending)) in
    once_kept steps first next last file file' same (once_from steps next last next_file file' rest)

pub returns_each_record_once : ReturnsEachRecordOnce
returns_each_record_once records first last file file' steps new taken =
    let none : held_entries first ≡ [] = held_as first first [] [] new.empty.empty (ap pending_entries new.pending) in
    subst (λ h. IsPermutation (h ++ read_in steps) (returned_in steps ++ held_entries last)) none (once_from steps first last file file' taken)

-- ---- what is read is what the iterator over the input returns

pub ended_runs : (stage : Stage) → stage ≡ Ended → stage ≡ Running → ⊥
ended_runs stage ended running = cc

pub failed_runs : (stage : Stage) → stage ≡ Failed → stage ≡ Running → ⊥
failed_runs stage failed running = cc

pub still_stopped : (first next : InMemoryOrderedRecords) → next.records ≡ first.records → first.records.records.stage ≢ Running → next.records.records.stage ≢ Running
still_stopped first next same stopped running = stopped (sym (ap (λ r. r.records.stage) same) ∙ running)

-- Nothing is read after the end or an error.
pub nothing_read : (steps : List Step) (first last : InMemoryOrderedRecords) (file file' : PerfFile) → first.records.records.stage ≢ Running → TakesSteps steps first file last file' → read_in steps ≡ []
nothing_read [] first last file file' stopped taken = refl
nothing_read (reads key place r ∷ steps) first last file file' stopped (next, (next_file, step, rest)) = absurd (stopped step.returned.returns.was_running)
nothing_read (passes place r ∷ steps) first last file file' stopped (next, (next_file, step, rest)) = nothing_read steps next last next_file file' (still_stopped first next step.0.same_records stopped) rest
nothing_read (reads_end ∷ steps) first last file file' stopped (next, (next_file, step, rest)) = nothing_read steps next last next_file file' (λ running. ended_runs next.records.records.stage step.ended.stage_ended running) rest
nothing_read (reads_error e ∷ steps) first last file file' stopped (next, (next_file, step, rest)) = nothing_read steps next last next_file file' (λ running. failed_runs next.records.records.stage step.failed.stage_failed running) rest
nothing_read (sorts (inserts key entry) ∷ steps) first last file file' stopped (next, (next_file, step, rest)) = nothing_read steps next last next_file file' (still_stopped first next step.0.same_records stopped) rest
nothing_read (sorts ends_round ∷ steps) first last file file' stopped (next, (next_file, step, rest)) = nothing_read steps next last next_file file' (still_stopped first next step.0.same_records stopped) rest
nothing_read (sorts ends_all ∷ steps) first last file file' stopped (next, (next_file, step, rest)) = nothing_read steps next last next_file file' (still_stopped first next step.0.same_records stopped) rest
nothing_read (sorts releases ∷ steps) first last file file' stopped (next, (next_file, step, rest)) = absurd step.0
nothing_read (sorts (returns key entry) ∷ steps) first last file file' stopped (next, (next_file, step, rest)) = nothing_read steps next last next_file file' (still_stopped first next step.0.same_records stopped) rest
nothing_read (sorts keeps ∷ steps) first last file file' stopped (next, (next_file, step, rest)) = nothing_read steps next last next_file file' (still_stopped first next step.0.same_records stopped) rest
nothing_read (reports e ∷ steps) first last file file' stopped (next, (next_file, step, rest)) = nothing_read steps next last next_file file' (still_stopped first next step.0.same_records stopped) rest

abbrev views : List Entry → List RecordView
views = map (λ (e : Entry). record_view_of e.0 e.1)

abbrev ReturnedFrom : InMemoryRecords → PerfFile → List Entry → Type 0
ReturnedFrom records file read = (now : InMemoryRecords) × ((now_file : PerfFile) × ReturnsRecordsInMemory records file (views read) now now_file)

none_from : (records : InMemoryRecords) (file : PerfFile) (read : List Entry) → read ≡ [] → ReturnedFrom records file read
none_from records file read none = subst (λ es. ReturnedFrom records file es) (sym none) (records, (file, (refl, refl)))

from_same : (first next : InMemoryOrderedRecords) (file next_file : PerfFile) (read : List Entry) → next.records ≡ first.records → next_file ≡ file → ReturnedFrom next.records next_file read → ReturnedFrom first.records file read
from_same first next file next_file read same same_file from = subst (λ s. ReturnedFrom s file read) same (subst (λ q. ReturnedFrom next.records q read) same_file from)

read_from : (steps : List Step) (first last : InMemoryOrderedRecords) (file file' : PerfFile) → TakesSteps steps first file last file' → ReturnedFrom first.records file (read_in steps)
read_from [] first last file file' taken = (first.records, (file, (refl, refl)))
read_from (reads key place r ∷ steps) first last file file' (next, (next_file, step, rest)) =
    let more = read_from steps next last next_file file' rest in
    (more.0, (more.1.0, (next.records, (next_file, (place, (r, step.returned, refl)), more.1.1))))
read_from (passes place r ∷ steps) first last file file' (next, (next_file, step, rest)) = from_same first next file next_file (read_in steps) step.0.same_records step.1 (read_from steps next last next_file file' rest)
read_from (reads_end ∷ steps) first last file file' (next, (next_file, step, rest)) =
    none_from first.records file (read_in steps) (nothing_read steps next last next_file file' (λ running. ended_runs next.records.records.stage step.ended.stage_ended running) rest)
read_from (reads_error e ∷ steps) first last file file' (next, (next_file, step, rest)) =
    none_from first.records file (read_in steps) (nothing_read steps next last next_file file' (λ running. failed_runs next.records.records.stage step.failed.stage_failed running) rest)
read_from (sorts (inserts key entry) ∷ steps) first last file file' (next, (next_file, step, rest)) = from_same first next file next_file (read_in steps) step.0.same_records step.1 (read_from steps next last next_file file' rest)
read_from (sorts ends_round ∷ steps) first last file file' (next, (next_file, step, rest)) = from_same first next file next_file (read_in steps) step.0.same_records step.1 (read_from steps next last next_file file' rest)
read_from (sorts ends_all ∷ steps) first last file file' (next, (next_file, step, rest)) = from_same first next file next_file (read_in steps) step.0.same_records step.1 (read_from steps next last next_file file' rest)
read_from (sorts releases ∷ steps) first last file file' (next, (next_file, step, rest)) = absurd step.0
read_from (sorts (returns key entry) ∷ steps) first last file file' (next, (next_file, step, rest)) = from_same first next file next_file (read_in steps) step.0.same_records step.1 (read_from steps next last next_file file' rest)
read_from (sorts keeps ∷ steps) first last file file' (next, (next_file, step, rest)) = from_same first next file next_file (read_in steps) step.0.same_records step.1 (read_from steps next last next_file file' rest)
read_from (reports e ∷ steps) first last file file' (next, (next_file, step, rest)) = from_same first next file next_file (read_in steps) step.0.same_records step.1 (read_from steps next last next_file file' rest)

pub reads_records_of_input : ReadsRecordsOfInput
reads_records_of_input records first last file file' steps new taken =
    subst (λ s. ReturnedFrom s file (read_in steps)) new.same_records (read_from steps first last file file' taken)
