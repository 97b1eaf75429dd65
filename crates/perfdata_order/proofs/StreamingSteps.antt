-- Laws of the steps over a source.
use Rattle.std.proofs.Common.{◌≡◌, ℕ, List, [], ◌∷◌, ◌++◌, map, None, Some, refl, sym, ap, ◌∙◌, subst, append_assoc, append-nil}
use Rattle.std.specs.Ordering.{nat_cmp}
use Rattle.std.specs.List.Sorted.{IsPermutation}
use Rattle.std.proofs.lemmas.List.Sorted.{IsPermutation-refl, IsPermutation-trans, IsPermutation-cons, IsPermutation-middle, IsPermutation-map, IsPermutation-append_left}
use Rattle.perfdata_sources.specs.Source.{State}
use Rattle.linux_perf_data.specs.declared.perf_file.PerfFile.{PerfFile}
use Rattle.linux_perf_data.specs.declared.records.iter.PerfRecordIter.{PerfRecordIter}
use Rattle.linux_perf_data.specs.Layout.{RecordView}
use Rattle.linux_perf_data.specs.Iter.{ReturnsRecord}
use Rattle.linux_perf_data.specs.Items.{ReturnsRoundEnd}
use Rattle.linux_perf_data.specs.Reading.{ReturnsRecords}
use Rattle.linux_perf_data.proofs.MarkerCalls.{marker_skipped, record_after}
use Rattle.perfdata_order.specs.declared.held_record.HeldRecord.{HeldRecord}
use Rattle.perfdata_order.specs.declared.streaming.OrderedRecords.{OrderedRecords}
use Rattle.perfdata_order.specs.HeldRecord.{held_view, held_size}
use Rattle.perfdata_order.specs.Sorter.{held_of}
use Rattle.perfdata_order.specs.SorterLaws.{MakesCalls}
use Rattle.perfdata_order.specs.SorterLaws.Call.{inserts, ends_round, ends_all, releases, returns, keeps}
use Rattle.perfdata_order.specs.StreamingOrder.{Unplaced, unplaced_of, after_round, Step, TakesSteps, returned_in, HalfReleasedEarly, ReleasesForPending}
use Rattle.perfdata_order.specs.StreamingOrder.Unplaced.{nothing, waiting, round_ending, ending, failing, failed}
use Rattle.perfdata_order.specs.StreamingOrder.Step.{reads, reads_round_end, passes, reads_end, reads_error, sorts, reports}
use Rattle.perfdata_order.specs.StreamingLaws.{read_in, calls_in, unplaced_records, held_records, ReturnsEachRecordOnce, ReadsRecordsOfSource, CallsSorterInTurn}
use Rattle.perfdata_order.proofs.SorterCalls.{held_after_insert, held_before_return}
use Rattle.perfdata_order.proofs.StreamingCalls.{IsLast}

pub half_released : {R : Type 0} (q : Unplaced) (old new : OrderedRecords R) → ReleasesForPending q old new → (size : ℕ) × HalfReleasedEarly old size new
half_released nothing old new released = absurd released
half_released (waiting None h) old new released = absurd released
half_released (waiting (Some key) h) old new released = (held_size h, released)
half_released round_ending old new released = absurd released
half_released ending old new released = absurd released
half_released (failing e) old new released = absurd released
half_released failed old new released = absurd released

-- The end of a round leaves the same record pending.
same_records_after : (q : Unplaced) → unplaced_records (after_round q) ≡ unplaced_records q
same_records_after nothing = refl
same_records_after (waiting key h) = refl
same_records_after round_ending = refl
same_records_after ending = refl
same_records_after (failing e) = refl
same_records_after failed = refl

still_last : (q : Unplaced) → IsLast q → IsLast (after_round q)
still_last nothing final = absurd final
still_last (waiting key h) final = absurd final
still_last round_ending final = absurd final
still_last ending final = tt
still_last (failing e) final = tt
still_last failed final = tt

module _ {R : Type 0} (state : R → State) where
  pub calls_sorter_in_turn : CallsSorterInTurn state
  calls_sorter_in_turn first last file file' [] (same, same_file) = ap (λ s. s.held.sorter) same
  calls_sorter_in_turn first last file file' (reads key h ∷ steps) (next, (next_file, step, rest)) =
      subst (λ s. MakesCalls nat_cmp (calls_in steps) s last.held.sorter) step.same_order.sorter (calls_sorter_in_turn next last next_file file' steps rest)
  calls_sorter_in_turn first last file file' (reads_round_end ended ∷ steps) (next, (next_file, step, rest)) =
      subst (λ s. MakesCalls nat_cmp (calls_in steps) s last.held.sorter) step.same_order.sorter (calls_sorter_in_turn next last next_file file' steps rest)
  calls_sorter_in_turn first last file file' (passes h ∷ steps) (next, (next_file, step, rest)) =
      subst (λ s. MakesCalls nat_cmp (calls_in steps) s last.held.sorter) step.0.same_order.sorter (calls_sorter_in_turn next last next_file file' steps rest)
  calls_sorter_in_turn first last file file' (reads_end ∷ steps) (next, (next_file, step, rest)) =
      subst (λ s. MakesCalls nat_cmp (calls_in steps) s last.held.sorter) step.same_order.sorter (calls_sorter_in_turn next last next_file file' steps rest)
  calls_sorter_in_turn first last file file' (reads_error e ∷ steps) (next, (next_file, step, rest)) =
      subst (λ s. MakesCalls nat_cmp (calls_in steps) s last.held.sorter) step.same_order.sorter (calls_sorter_in_turn next last next_file file' steps rest)
  calls_sorter_in_turn first last file file' (sorts (inserts key held) ∷ steps) (next, (next_file, step, rest)) =
      (next.held.sorter, step.0.inserted, calls_sorter_in_turn next last next_file file' steps rest)
  calls_sorter_in_turn first last file file' (sorts ends_round ∷ steps) (next, (next_file, step, rest)) =
      (next.held.sorter, step.0.ended, calls_sorter_in_turn next last next_file file' steps rest)
  calls_sorter_in_turn first last file file' (sorts ends_all ∷ steps) (next, (next_file, step, rest)) =
      (next.held.sorter, step.0.ended, calls_sorter_in_turn next last next_file file' steps rest)
  calls_sorter_in_turn first last file file' (sorts releases ∷ steps) (next, (next_file, step, rest)) =
      (next.held.sorter, (half_released (unplaced_of first) first next step.0).1.released, calls_sorter_in_turn next last next_file file' steps rest)
  calls_sorter_in_turn first last file file' (sorts (returns key held) ∷ steps) (next, (next_file, step, rest)) =
      (next.held.sorter, step.0.returned, calls_sorter_in_turn next last next_file file' steps rest)
  calls_sorter_in_turn first last file file' (sorts keeps ∷ steps) (next, (next_file, step, rest)) =
      (next.held.sorter, step.0.unchanged, calls_sorter_in_turn next last next_file file' steps rest)
  calls_sorter_in_turn first last file file' (reports e ∷ steps) (next, (next_file, step, rest)) =
      subst (λ s. MakesCalls nat_cmp (calls_in steps) s last.held.sorter) step.0.same_order.sorter (calls_sorter_in_turn next last next_file file' steps rest)

  -- ---- each record once

  abbrev entries : List (ℕ × HeldRecord) → List RecordView
  entries = map (λ (e : ℕ × HeldRecord). held_view e.1)

  entries_append : (xs ys : List (ℕ × HeldRecord)) → entries (xs ++ ys) ≡ entries xs ++ entries ys
  entries_append [] ys = refl
  entries_append (x ∷ xs) ys = ap (λ zs. held_view x.1 ∷ zs) (entries_append xs ys)

  -- The held records follow from the parts of the state.
  held_as : (s t : OrderedRecords R) (xs : List (ℕ × HeldRecord)) (ys : List RecordView) → held_of s.held.sorter ≡ xs → unplaced_records (unplaced_of s) ≡ ys → held_records state s ≡ entries xs ++ ys
  held_as s t xs ys held pending = ap (λ h. entries h ++ unplaced_records (unplaced_of s)) held ∙ ap (λ p. entries xs ++ p) pending

  -- A step that neither reads nor returns a record, and after which the same records are held.
  once_kept : (steps : List Step) (first next last : OrderedRecords R) (file file' : PerfFile) → held_records state next ≡ held_records state first → IsPermutation (held_records state next ++ read_in steps) (returned_in steps ++ held_records state last)
      → IsPermutation (held_records state first ++ read_in steps) (returned_in steps ++ held_records state last)
  once_kept steps first next last file file' same once = subst (λ h. IsPermutation (h ++ read_in steps) (returned_in steps ++ held_records state last)) same once

  once_from : (steps : List Step) (first last : OrderedRecords R) (file file' : PerfFile) → TakesSteps state steps first file last file' → IsPermutation (held_records state first ++ read_in steps) (returned_in steps ++ held_records state last)
  once_from [] first last file file' (same, same_file) =
      subst (λ s. IsPermutation (held_records state first ++ []) (held_records state s)) (sym same) (subst (λ h. IsPermutation h (held_records state first)) (sym (append-nil (held_records state first))) (IsPermutation-refl (held_records state first)))
  once_from (reads key h ∷ steps) first last file file' (next, (next_file, step, rest)) =
      let before : held_records state first ≡ entries (held_of first.held.sorter) ++ [] = held_as first first (held_of first.held.sorter) [] refl (ap unplaced_records step.nothing_pending) in
      let after : held_records state next ≡ entries (held_of first.held.sorter) ++ h ∷ [] = held_as next next (held_of first.held.sorter) (h ∷ []) (ap held_of step.same_order.sorter) (ap unplaced_records step.pending) in
      let plain = before ∙ append-nil (entries (held_of first.held.sorter)) in
      let regrouped : held_records state next ++ read_in steps ≡ held_records state first ++ h ∷ read_in steps =
      ap (λ h. h ++ read_in steps) after ∙ append_assoc (entries (held_of first.held.sorter)) (h ∷ []) (read_in steps) ∙ ap (λ hs. hs ++ h ∷ read_in steps) (sym plain) in
      subst (λ h. IsPermutation h (returned_in steps ++ held_records state last)) regrouped (once_from steps next last next_file file' rest)
  once_from (reads_round_end ended ∷ steps) first last file file' (next, (next_file, step, rest)) =
      let same : held_records state next ≡ held_records state first =
      held_as next next (held_of first.held.sorter) [] (ap held_of step.same_order.sorter) (ap unplaced_records step.pending) ∙ sym (held_as first first (held_of first.held.sorter) [] refl (ap unplaced_records step.nothing_pending)) in
      once_kept steps first next last file file' same (once_from steps next last next_file file' rest)
  once_from (passes h ∷ steps) first last file file' (next, (next_file, step, rest)) =
      let before : held_records state first ≡ entries (held_of first.held.sorter) ++ h ∷ [] = held_as first first (held_of first.held.sorter) (h ∷ []) refl (ap unplaced_records step.0.was_pending) in
      let after : held_records state next ≡ entries (held_of first.held.sorter) ++ [] = held_as next next (held_of first.held.sorter) [] (ap held_of step.0.same_order.sorter) (ap unplaced_records step.0.pending) in
      let plain = after ∙ append-nil (entries (held_of first.held.sorter)) in
      let regrouped : held_records state first ++ read_in steps ≡ held_records state next ++ h ∷ read_in steps =
      ap (λ h. h ++ read_in steps) before ∙ append_assoc (entries (held_of first.held.sorter)) (h ∷ []) (read_in steps) ∙ ap (λ hs. hs ++ h ∷ read_in steps) (sym plain) in
      subst (λ hs. IsPermutation hs (h ∷ (returned_in steps ++ held_records state last))) (sym regrouped)
      (IsPermutation-trans _ _ _ (IsPermutation-middle (held_records state next) h (read_in steps)) (IsPermutation-cons h _ _ (once_from steps next last next_file file' rest)))
  once_from (reads_end ∷ steps) first last file file' (next, (next_file, step, rest)) =
      let same : held_records state next ≡ held_records state first =
      held_as next next (held_of first.held.sorter) [] (ap held_of step.same_order.sorter) (ap unplaced_records step.pending) ∙ sym (held_as first first (held_of first.held.sorter) [] refl (ap unplaced_records step.nothing_pending)) in
      once_kept steps first next last file file' same (once_from steps next last next_file file' rest)
  once_from (reads_error e ∷ steps) first last file file' (next, (next_file, step, rest)) =
      let same : held_records state next ≡ held_records state first =
      held_as next next (held_of first.held.sorter) [] (ap held_of step.same_order.sorter) (ap unplaced_records step.pending) ∙ sym (held_as first first (held_of first.held.sorter) [] refl (ap unplaced_records step.nothing_pending)) in
      once_kept steps first next last file file' same (once_from steps next last next_file file' rest)
  once_from (sorts (inserts key held) ∷ steps) first last file file' (next, (next_file, step, rest)) =
      let all = held_after_insert first.held.sorter next.held.sorter key held step.0.inserted in
      let after : held_records state next ≡ entries (held_of first.held.sorter ++ (key, held) ∷ []) ++ [] = held_as next next (held_of first.held.sorter ++ (key, held) ∷ []) [] all (ap unplaced_records step.0.pending) in
      let before : held_records state first ≡ entries (held_of first.held.sorter) ++ held_view held ∷ [] = held_as first first (held_of first.held.sorter) (held_view held ∷ []) refl (ap unplaced_records step.0.was_pending) in
      let same : held_records state next ≡ held_records state first = after ∙ append-nil (entries (held_of first.held.sorter ++ (key, held) ∷ [])) ∙ entries_append (held_of first.held.sorter) ((key, held) ∷ []) ∙ sym before in
      once_kept steps first next last file file' same (once_from steps next last next_file file' rest)
  once_from (sorts ends_round ∷ steps) first last file file' (next, (next_file, step, rest)) =
      let sorted = IsPermutation-map (λ (e : ℕ × HeldRecord). held_view e.1) (held_of first.held.sorter) (held_of next.held.sorter) step.0.ended.sorts.each_once in
      let same = subst (λ hs. IsPermutation (held_records state first) (entries (held_of next.held.sorter) ++ hs)) (sym (ap unplaced_records step.0.pending ∙ same_records_after (unplaced_of first))) (IsPermutation-append_left (unplaced_records (unplaced_of first)) (entries (held_of first.held.sorter)) (entries (held_of next.held.sorter)) sorted) in
      IsPermutation-trans _ _ _ (IsPermutation-append_left (read_in steps) (held_records state first) (held_records state next) same) (once_from steps next last next_file file' rest)
  once_from (sorts ends_all ∷ steps) first last file file' (next, (next_file, step, rest)) =
      let sorted = IsPermutation-map (λ (e : ℕ × HeldRecord). held_view e.1) (held_of first.held.sorter) (held_of next.held.sorter) step.0.ended.sorts.each_once in
      let same = subst (λ p. IsPermutation (held_records state first) (entries (held_of next.held.sorter) ++ unplaced_records p)) (sym step.0.pending) (IsPermutation-append_left (unplaced_records (unplaced_of first)) (entries (held_of first.held.sorter)) (entries (held_of next.held.sorter)) sorted) in
      IsPermutation-trans _ _ _ (IsPermutation-append_left (read_in steps) (held_records state first) (held_records state next) same) (once_from steps next last next_file file' rest)
  once_from (sorts releases ∷ steps) first last file file' (next, (next_file, step, rest)) =
      let early = (half_released (unplaced_of first) first next step.0).1 in
      let sorted = IsPermutation-map (λ (e : ℕ × HeldRecord). held_view e.1) (held_of first.held.sorter) (held_of next.held.sorter) early.released.sorts.each_once in
      let same = subst (λ p. IsPermutation (held_records state first) (entries (held_of next.held.sorter) ++ unplaced_records p)) (sym early.pending) (IsPermutation-append_left (unplaced_records (unplaced_of first)) (entries (held_of first.held.sorter)) (entries (held_of next.held.sorter)) sorted) in
      IsPermutation-trans _ _ _ (IsPermutation-append_left (read_in steps) (held_records state first) (held_records state next) same) (once_from steps next last next_file file' rest)
  once_from (sorts (returns key held) ∷ steps) first last file file' (next, (next_file, step, rest)) =
      let all = held_before_return first.held.sorter next.held.sorter key held step.0.returned in
      let before : held_records state first ≡ held_view held ∷ held_records state next = held_as first first ((key, held) ∷ held_of next.held.sorter) (unplaced_records (unplaced_of next)) all (ap unplaced_records (sym step.0.pending)) in
      subst (λ h. IsPermutation (h ++ read_in steps) (held_view held ∷ (returned_in steps ++ held_records state last))) (sym before)
      (IsPermutation-cons (held_view held) (held_records state next ++ read_in steps) (returned_in steps ++ held_records state last) (once_from steps next last next_file file' rest))
  once_from (sorts keeps ∷ steps) first last file file' (next, (next_file, step, rest)) =
      once_kept steps first next last file file' (held_as next next (held_of first.held.sorter) (unplaced_records (unplaced_of first)) step.0.unchanged.held (ap unplaced_records step.0.pending)) (once_from steps next last next_file file' rest)
  once_from (reports e ∷ steps) first last file file' (next, (next_file, step, rest)) =
      let same : held_records state next ≡ held_records state first =
      held_as next next (held_of first.held.sorter) [] (ap held_of step.0.same_order.sorter) (ap unplaced_records step.0.pending) ∙ sym (held_as first first (held_of first.held.sorter) [] refl (ap unplaced_records step.0.was_pending)) in
      once_kept steps first next last file file' same (once_from steps next last next_file file' rest)

  pub returns_each_record_once : ReturnsEachRecordOnce state
  returns_each_record_once records budget first last file file' steps new taken =
      let none : held_records state first ≡ [] = held_as first first [] [] new.empty.empty (ap unplaced_records new.pending) in
      subst (λ h. IsPermutation (h ++ read_in steps) (returned_in steps ++ held_records state last)) none (once_from steps first last file file' taken)

  -- ---- what is read is what the iterator over the source returns

  -- Nothing is read after the end or an error.
  pub nothing_read : (steps : List Step) (first last : OrderedRecords R) (file file' : PerfFile) → IsLast (unplaced_of first) → TakesSteps state steps first file last file' → read_in steps ≡ []
  nothing_read [] first last file file' final taken = refl
  nothing_read (reads key h ∷ steps) first last file file' final (next, (next_file, step, rest)) = absurd (subst (λ q. IsLast q) step.nothing_pending final)
  nothing_read (reads_round_end ended ∷ steps) first last file file' final (next, (next_file, step, rest)) = absurd (subst (λ q. IsLast q) step.nothing_pending final)
  nothing_read (passes h ∷ steps) first last file file' final (next, (next_file, step, rest)) = absurd (subst (λ q. IsLast q) step.0.was_pending final)
  nothing_read (reads_end ∷ steps) first last file file' final (next, (next_file, step, rest)) = absurd (subst (λ q. IsLast q) step.nothing_pending final)
  nothing_read (reads_error e ∷ steps) first last file file' final (next, (next_file, step, rest)) = absurd (subst (λ q. IsLast q) step.nothing_pending final)
  nothing_read (sorts (inserts key held) ∷ steps) first last file file' final (next, (next_file, step, rest)) = absurd (subst (λ q. IsLast q) step.0.was_pending final)
  nothing_read (sorts ends_round ∷ steps) first last file file' final (next, (next_file, step, rest)) = nothing_read steps next last next_file file' (subst (λ q. IsLast q) (sym step.0.pending) (still_last (unplaced_of first) final)) rest
  nothing_read (sorts ends_all ∷ steps) first last file file' final (next, (next_file, step, rest)) = nothing_read steps next last next_file file' (subst (λ q. IsLast q) (sym step.0.pending) final) rest
  nothing_read (sorts releases ∷ steps) first last file file' final (next, (next_file, step, rest)) =
      nothing_read steps next last next_file file' (subst (λ q. IsLast q) (sym (half_released (unplaced_of first) first next step.0).1.pending) final) rest
  nothing_read (sorts (returns key held) ∷ steps) first last file file' final (next, (next_file, step, rest)) = nothing_read steps next last next_file file' (subst (λ q. IsLast q) (sym step.0.pending) final) rest
  nothing_read (sorts keeps ∷ steps) first last file file' final (next, (next_file, step, rest)) = nothing_read steps next last next_file file' (subst (λ q. IsLast q) (sym step.0.pending) final) rest
  nothing_read (reports e ∷ steps) first last file file' final (next, (next_file, step, rest)) = nothing_read steps next last next_file file' (subst (λ q. IsLast q) (sym step.0.pending) tt) rest

  abbrev ReturnedFrom : PerfRecordIter R → PerfFile → List RecordView → Type 0
  ReturnedFrom records file read = (now : PerfRecordIter R) × ((now_file : PerfFile) × ReturnsRecords state records file read now now_file)

  none_from : (records : PerfRecordIter R) (file : PerfFile) (read : List RecordView) → read ≡ [] → ReturnedFrom records file read
  none_from records file read none = subst (λ hs. ReturnedFrom records file hs) (sym none) (records, (file, (refl, refl)))

  from_same : (first next : OrderedRecords R) (file next_file : PerfFile) (read : List RecordView) → next.records ≡ first.records → next_file ≡ file → ReturnedFrom next.records next_file read → ReturnedFrom first.records file read
  from_same first next file next_file read same same_file from = subst (λ s. ReturnedFrom s file read) same (subst (λ q. ReturnedFrom next.records q read) same_file from)

  -- What calls after a marker return, they return before it.
  from_marker : (old new : PerfRecordIter R) (file file' : PerfFile) (ended : ℕ) (read : List RecordView) → ReturnsRoundEnd state old file ended new file' → ReturnedFrom new file' read → ReturnedFrom old file read
  from_marker old new file file' ended [] r from = (old, (file, (refl, refl)))
  from_marker old new file file' ended (h ∷ hs) r (now, (now_file, (next, (next_file, returned, rest)))) =
      let first = subst (λ q. ReturnsRecord state new q h next next_file) r.file_unchanged returned in
      (now, (now_file, (next, (next_file, record_after state old new next file next_file h (marker_skipped state old new file file' ended r) first, rest))))

  read_from : (steps : List Step) (first last : OrderedRecords R) (file file' : PerfFile) → TakesSteps state steps first file last file' → ReturnedFrom first.records file (read_in steps)
  read_from [] first last file file' taken = (first.records, (file, (refl, refl)))
  read_from (reads key h ∷ steps) first last file file' (next, (next_file, step, rest)) =
      let more = read_from steps next last next_file file' rest in
      (more.0, (more.1.0, (next.records, (next_file, step.returned.returned, more.1.1))))
  read_from (reads_round_end ended ∷ steps) first last file file' (next, (next_file, step, rest)) = from_marker first.records next.records file next_file ended (read_in steps) step.returned (read_from steps next last next_file file' rest)
  read_from (passes h ∷ steps) first last file file' (next, (next_file, step, rest)) = from_same first next file next_file (read_in steps) step.0.same_records step.1 (read_from steps next last next_file file' rest)
  read_from (reads_end ∷ steps) first last file file' (next, (next_file, step, rest)) =
      none_from first.records file (read_in steps) (nothing_read steps next last next_file file' (subst (λ q. IsLast q) (sym step.pending) tt) rest)
  read_from (reads_error e ∷ steps) first last file file' (next, (next_file, step, rest)) =
      none_from first.records file (read_in steps) (nothing_read steps next last next_file file' (subst (λ q. IsLast q) (sym step.pending) tt) rest)
  read_from (sorts (inserts key held) ∷ steps) first last file file' (next, (next_file, step, rest)) = from_same first next file next_file (read_in steps) step.0.same_records step.1 (read_from steps next last next_file file' rest)
  read_from (sorts ends_round ∷ steps) first last file file' (next, (next_file, step, rest)) = from_same first next file next_file (read_in steps) step.0.same_records step.1 (read_from steps next last next_file file' rest)
  read_from (sorts ends_all ∷ steps) first last file file' (next, (next_file, step, rest)) = from_same first next file next_file (read_in steps) step.0.same_records step.1 (read_from steps next last next_file file' rest)
  read_from (sorts releases ∷ steps) first last file file' (next, (next_file, step, rest)) =
      from_same first next file next_file (read_in steps) (half_released (unplaced_of first) first next step.0).1.same_records step.1 (read_from steps next last next_file file' rest)
  read_from (sorts (returns key held) ∷ steps) first last file file' (next, (next_file, step, rest)) = from_same first next file next_file (read_in steps) step.0.same_records step.1 (read_from steps next last next_file file' rest)
  read_from (sorts keeps ∷ steps) first last file file' (next, (next_file, step, rest)) = from_same first next file next_file (read_in steps) step.0.same_records step.1 (read_from steps next last next_file file' rest)
  read_from (reports e ∷ steps) first last file file' (next, (next_file, step, rest)) = from_same first next file next_file (read_in steps) step.0.same_records step.1 (read_from steps next last next_file file' rest)

  pub reads_records_of_source : ReadsRecordsOfSource state
  reads_records_of_source records budget first last file file' steps new taken =
      subst (λ s. ReturnedFrom s file (read_in steps)) new.same_records (read_from steps first last file file' taken)
