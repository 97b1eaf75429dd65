-- The steps of a call.
use Rattle.std.proofs.Common.{◌≡◌, ℕ, ◌+◌, ◌-◌, ◌*◌, ◌^◌, ◌<◌, ◌≤◌, List, [], ◌∷◌, ◌++◌, Option, None, Some, Result, Ok, Err, refl, sym, ap, ◌∙◌, subst, inl, inr, arith}
use Rattle.std.specs.Ordering.{nat_cmp}
use Rattle.perfdata_sections.specs.declared.error.Error.{Error}
use Rattle.perfdata_records.specs.declared.record.PerfFileRecord.{PerfFileRecord}
use Rattle.linux_perf_data.specs.declared.records.iter.RecordPlace.{RecordPlace}
use Rattle.linux_perf_data.specs.declared.perf_file.PerfFile.{PerfFile}
use Rattle.linux_perf_data.specs.declared.in_memory.InMemoryRecords.{InMemoryRecords}
use Rattle.linux_perf_data.specs.InMemoryReading.{ReturnsRecordInMemory}
use Rattle.std.specs.Prelude.{◌≢◌}
use Rattle.std.specs.declared.alloc.AllocError.{AllocError}
use Rattle.perfdata_order.specs.declared.sorter.Sorter.{Sorter}
use Rattle.perfdata_order.specs.declared.in_memory.PendingStep.{PendingStep}
use Rattle.perfdata_order.specs.declared.in_memory.PendingStep.TheVariants.{Nothing, Record, End, Failure}
use Rattle.perfdata_order.specs.declared.in_memory.InMemoryOrderedRecords.{InMemoryOrderedRecords}
use Rattle.perfdata_order.specs.Sorter.{held_of, available_of, pending_of, IsUnchanged, Inserted, EndsAllRounds}
use Rattle.perfdata_order.specs.SorterLaws.Call.{inserts, ends_round, ends_all, releases, returns, keeps}
use Rattle.perfdata_order.specs.InMemoryOrder.{EndReturned, Entry, Step, returned_in, TakesStep, TakesSteps, Progress, EntryReturned, PassesPending, KeepsSorter, EndsRounds, InsertsPending, ReturnsSorted, IsOneRoundLater, IsLaterOrLast}
use Rattle.perfdata_order.specs.steps.InMemoryOrder.{AfterPlacing, PlacesPending, IsPending, pending_records, Places, ReadsPending, HasNoUntimed, EndsRoundsBefore}
use Rattle.perfdata_order.specs.InMemoryOrder.Step.{reads, passes, reads_end, reads_error, sorts, reports}
use Rattle.perfdata_order.proofs.SorterCalls.{held_split}

pub steps_append : (ss ts : List Step) (a b c : InMemoryOrderedRecords) (f g h : PerfFile) → TakesSteps ss a f b g → TakesSteps ts b g c h → TakesSteps (ss ++ ts) a f c h
steps_append [] ts a b c f g h (same, same_file) more = subst (λ s. TakesSteps ts s f c h) same (subst (λ q. TakesSteps ts b q c h) same_file more)
steps_append (s ∷ ss) ts a b c f g h (next, (next_file, step, rest)) more = (next, (next_file, step, steps_append ss ts next b c next_file g h rest more))

pub returned_append : (ss ts : List Step) → returned_in (ss ++ ts) ≡ returned_in ss ++ returned_in ts
returned_append [] ts = refl
returned_append (reads key place r ∷ ss) ts = returned_append ss ts
returned_append (passes place r ∷ ss) ts = ap (λ es. (place, r) ∷ es) (returned_append ss ts)
returned_append (reads_end ∷ ss) ts = returned_append ss ts
returned_append (reads_error e ∷ ss) ts = returned_append ss ts
returned_append (sorts (inserts key entry) ∷ ss) ts = returned_append ss ts
returned_append (sorts ends_round ∷ ss) ts = returned_append ss ts
returned_append (sorts ends_all ∷ ss) ts = returned_append ss ts
returned_append (sorts releases ∷ ss) ts = returned_append ss ts
returned_append (sorts (returns key entry) ∷ ss) ts = ap (λ es. entry ∷ es) (returned_append ss ts)
returned_append (sorts keeps ∷ ss) ts = returned_append ss ts
returned_append (reports e ∷ ss) ts = returned_append ss ts

pub none_append : (ss ts : List Step) → returned_in ss ≡ [] → returned_in ts ≡ [] → returned_in (ss ++ ts) ≡ []
none_append [] ts none more = more
none_append (reads key place r ∷ ss) ts none more = none_append ss ts none more
none_append (passes place r ∷ ss) ts none more = cc
none_append (reads_end ∷ ss) ts none more = none_append ss ts none more
none_append (reads_error e ∷ ss) ts none more = none_append ss ts none more
none_append (sorts (inserts key entry) ∷ ss) ts none more = none_append ss ts none more
none_append (sorts ends_round ∷ ss) ts none more = none_append ss ts none more
none_append (sorts ends_all ∷ ss) ts none more = none_append ss ts none more
none_append (sorts releases ∷ ss) ts none more = none_append ss ts none more
none_append (sorts (returns key entry) ∷ ss) ts none more = cc
none_append (sorts keeps ∷ ss) ts none more = none_append ss ts none more
none_append (reports e ∷ ss) ts none more = none_append ss ts none more

one_step : (step : Step) (a b : InMemoryOrderedRecords) (f g : PerfFile) → TakesStep step a f b g → TakesSteps (step ∷ []) a f b g
one_step step a b f g taken = (b, (g, taken, (refl, refl)))

-- ---- steps that return nothing

pub no_progress : (a : InMemoryOrderedRecords) (f : PerfFile) → Progress a f a f
no_progress a f = record { steps = []; none_returned = refl; taken = (refl, refl) }

pub progress_more : (a b c : InMemoryOrderedRecords) (f g h : PerfFile) → Progress a f b g → (step : Step) → returned_in (step ∷ []) ≡ [] → TakesStep step b g c h → Progress a f c h
progress_more a b c f g h p step none taken = record {
  steps = p.steps ++ step ∷ [];
  none_returned = none_append p.steps (step ∷ []) p.none_returned none;
  taken = steps_append p.steps (step ∷ []) a b c f g h p.taken (one_step step b c g h taken);
}

pub progress_places : (a b c : InMemoryOrderedRecords) (f g : PerfFile) → Progress a f b g → Places b c → Progress a f c g
progress_places a b c f g p q = record {
  steps = p.steps ++ q.steps;
  none_returned = none_append p.steps q.steps p.none_returned q.none_returned;
  taken = steps_append p.steps q.steps a b c f g g p.taken (q.taken g);
}

pub progress_read : (a b c : InMemoryOrderedRecords) (f g h : PerfFile) → Progress a f b g → ReadsPending b g c h → Progress a f c h
progress_read a b c f g h p (inl (pending, same, same_file)) = subst (λ s. Progress a f s h) (sym same) (subst (λ q. Progress a f b q) (sym same_file) p)
progress_read a b c f g h p (inr (inl (key, (place, (r, read))))) = progress_more a b c f g h p (reads key place r) refl read
progress_read a b c f g h p (inr (inr (inl read))) = progress_more a b c f g h p reads_end refl read
progress_read a b c f g h p (inr (inr (inr (e, read)))) = progress_more a b c f g h p (reads_error e) refl read

pub progress_kept : (a b c : InMemoryOrderedRecords) (f g : PerfFile) → Progress a f b g → KeepsSorter b c → Progress a f c g
progress_kept a b c f g p kept = progress_more a b c f g g p (sorts keeps) refl (kept, refl)

pub entry_sorted : (a b c : InMemoryOrderedRecords) (f g : PerfFile) (key : ℕ) (entry : Entry) → Progress a f b g → ReturnsSorted b key entry c → EntryReturned a f entry c g
entry_sorted a b c f g key entry p returned = record {
  middle = b;
  middle_file = g;
  before = p;
  step = sorts (returns key entry);
  returns_entry = refl;
  taken = (returned, refl);
}

pub entry_untimed : (a b c : InMemoryOrderedRecords) (f g : PerfFile) (entry : Entry) → Progress a f b g → PassesPending b entry.0 entry.1 c → EntryReturned a f entry c g
entry_untimed a b c f g entry p passed = record {
  middle = b;
  middle_file = g;
  before = p;
  step = passes entry.0 entry.1;
  returns_entry = refl;
  taken = (passed, refl);
}

-- ---- placing what is pending

pub places_none : (a b : InMemoryOrderedRecords) → b ≡ a → Places a b
places_none a b same = record { steps = []; none_returned = refl; taken = λ file. (same, refl) }

pub places_more : (a b c : InMemoryOrderedRecords) → Places a b → (step : Step) → returned_in (step ∷ []) ≡ [] → ((file : PerfFile) → TakesStep step b file c file) → Places a c
places_more a b c p step none taken = record {
  steps = p.steps ++ step ∷ [];
  none_returned = none_append p.steps (step ∷ []) p.none_returned none;
  taken = λ file. steps_append p.steps (step ∷ []) a b c file file file (p.taken file) (one_step step b c file file (taken file));
}

pub places_kept : (a b c : InMemoryOrderedRecords) → Places a b → KeepsSorter b c → Places a c
places_kept a b c p kept = places_more a b c p (sorts keeps) refl (λ file. (kept, refl))

pub places_ended : (a b c : InMemoryOrderedRecords) → Places a b → EndsRounds b c → Places a c
places_ended a b c p ended = places_more a b c p (sorts ends_all) refl (λ file. (ended, refl))

pub places_inserted : (a b c : InMemoryOrderedRecords) (key : ℕ) (entry : Entry) → Places a b → InsertsPending b key entry c → Places a c
places_inserted a b c key entry p inserted = places_more a b c p (sorts (inserts key entry)) refl (λ file. (inserted, refl))

-- What the end of the rounds before a pending record leaves.
pub record RoundsPlaced (a : InMemoryOrderedRecords) (place : RecordPlace) (b : InMemoryOrderedRecords) : Type 0 where
  pub places : Places a b
  pub pending : b.pending ≡ a.pending
  pub same_records : b.records ≡ a.records
  pub in_round : place.round ≤ b.round

pub rounds_placed : (a b : InMemoryOrderedRecords) (key : Option ℕ) (place : RecordPlace) (r : PerfFileRecord) → a.pending ≡ Record key place r → EndsRoundsBefore a place.round (Ok tt) b → RoundsPlaced a place b
rounds_placed a b key place r was (inl (le, same)) = record {
  places = places_none a b same;
  pending = ap (λ s. s.pending) same;
  same_records = ap (λ s. s.records) same;
  in_round = subst (λ s. place.round ≤ s.round) (sym same) le;
}
rounds_placed a b key place r was (inr (inl one)) = record {
  places = places_more a a b (places_none a a refl) (sorts ends_round) refl (λ file. (
    record {
      round = subst (λ p. IsOneRoundLater p a.round b.round) (sym was) (one.is_next, one.round);
      ended = one.ended;
      pending = one.pending;
      same_records = one.same_records;
    },
    refl,
  ));
  pending = one.pending;
  same_records = one.same_records;
  in_round = subst (λ n. place.round ≤ n) (sym one.round) (omega arith);
}
rounds_placed a b key place r was (inr (inr all)) = record {
  places = places_more a a b (places_none a a refl) (sorts ends_all) refl (λ file. (
    record {
      round = subst (λ p. IsLaterOrLast p a.round b.round) (sym was) (all.is_later, all.round);
      ended = all.ended;
      pending = all.pending;
      same_records = all.same_records;
    },
    refl,
  ));
  pending = all.pending;
  same_records = all.same_records;
  in_round = subst (λ n. place.round ≤ n) (sym all.round) (omega arith);
}

-- ---- what a record that was read shows of the offset

pub offset_rises : (old new : InMemoryRecords) (file file' : PerfFile) (place : RecordPlace) (r : PerfFileRecord) → ReturnsRecordInMemory old file place r new file' → (old.records.offset + 8 ≤ new.records.offset) × (new.records.offset < 2 ^ 64)
offset_rises old new file file' place r returned =
    let call = returned.returns in
    (omega (arith, call.record_offset, call.offset), call.offset_fits)

-- ---- what placing leaves

-- The round of the pending record.
abbrev pending_round : PendingStep → ℕ
pending_round Nothing = 0
pending_round (Record key place r) = place.round
pending_round End = 0
pending_round (Failure e) = 0

pub record_placed : (a b c : InMemoryOrderedRecords) (key : ℕ) (place : RecordPlace) (r : PerfFileRecord) → a.pending ≡ Record (Some key) place r → RoundsPlaced a place b → Inserted nat_cmp b.sorter key (place, r) c.sorter
    → c.pending ≡ Nothing → c.records ≡ b.records → c.round ≡ b.round → Places a c × AfterPlacing a.pending c × (c.records ≡ a.records)
record_placed a b c key place r was placed inserted nothing same_records same_round = (
  places_inserted a b c key (place, r) placed.places (record {
    was_pending = placed.pending ∙ was;
    in_round = placed.in_round;
    inserted = inserted;
    pending = nothing;
    same_records = same_records;
    round = same_round;
  }),
  subst (λ q. AfterPlacing q c) (sym was) nothing,
  same_records ∙ placed.same_records,
)

-- The rounds before that of a pending record without a time ended, or nothing changed.
pub untimed_placed : (a b : InMemoryOrderedRecords) (result : Result (Unit {0}) AllocError) (place : RecordPlace) (r : PerfFileRecord) → a.pending ≡ Record None place r → EndsRoundsBefore a place.round result b → PlacesPending a result b
untimed_placed a b (Ok done) place r was ended =
    let placed = rounds_placed a b None place r was ended in
    (placed.places, subst (λ q. AfterPlacing q b) (sym was) (placed.pending ∙ was, placed.in_round), placed.same_records)
untimed_placed a b (Err e) place r was kept = places_kept a a b (places_none a a refl) kept

ended : (a c : InMemoryOrderedRecords) → Places a c → (q : PendingStep) → a.pending ≡ q → AfterPlacing q c → c.records ≡ a.records → Places a c × AfterPlacing a.pending c × (c.records ≡ a.records)
ended a c places q is after same_records = (places, subst (λ q. AfterPlacing q c) (sym is) after, same_records)

pub end_placed : (a c : InMemoryOrderedRecords) (result : Result (Unit {0}) AllocError) → a.pending ≡ End → EndsAllRounds nat_cmp a.sorter result c.sorter → c.pending ≡ a.pending → c.records ≡ a.records → c.round ≡ a.round → PlacesPending a result c
end_placed a c (Ok done) is all pending same_records same_round =
    ended a c (places_ended a a c (places_none a a refl) (record { round = subst (λ p. IsLaterOrLast p a.round c.round) (sym is) same_round; ended = all; pending = pending; same_records = same_records }))
    End is (pending ∙ is, all.pending) same_records
end_placed a c (Err e) is unchanged pending same_records same_round =
    places_kept a a c (places_none a a refl) (record { unchanged = unchanged; pending = pending; same_records = same_records; round = same_round })

pub failure_placed : (a c : InMemoryOrderedRecords) (result : Result (Unit {0}) AllocError) (e : Error) → a.pending ≡ Failure e → EndsAllRounds nat_cmp a.sorter result c.sorter → c.pending ≡ a.pending → c.records ≡ a.records → c.round ≡ a.round → PlacesPending a result c
failure_placed a c (Ok done) e is all pending same_records same_round =
    ended a c (places_ended a a c (places_none a a refl) (record { round = subst (λ p. IsLaterOrLast p a.round c.round) (sym is) same_round; ended = all; pending = pending; same_records = same_records }))
    (Failure e) is (pending ∙ is, all.pending) same_records
failure_placed a c (Err error) e is unchanged pending same_records same_round =
    places_kept a a c (places_none a a refl) (record { unchanged = unchanged; pending = pending; same_records = same_records; round = same_round })

pub none_pending_at_end : (q : PendingStep) (b : InMemoryOrderedRecords) → AfterPlacing q b → b.pending ≡ End → pending_of b.sorter ≡ []
none_pending_at_end Nothing b after is = cc
none_pending_at_end (Record None place r) b after is = let same = after.0 in cc
none_pending_at_end (Record (Some key) place r) b after is = cc
none_pending_at_end End b after is = after.1
none_pending_at_end (Failure e) b after is = after.1

pub none_pending_at_failure : (q : PendingStep) (b : InMemoryOrderedRecords) (e : Error) → AfterPlacing q b → b.pending ≡ Failure e → pending_of b.sorter ≡ []
none_pending_at_failure Nothing b e after is = cc
none_pending_at_failure (Record None place r) b e after is = let same = after.0 in cc
none_pending_at_failure (Record (Some key) place r) b e after is = cc
none_pending_at_failure End b e after is = after.1
none_pending_at_failure (Failure e') b e after is = after.1

-- The rounds before that of the pending record without a time ended.
pub untimed_in_round : (q : PendingStep) (b : InMemoryOrderedRecords) (place : RecordPlace) (r : PerfFileRecord) → AfterPlacing q b → b.pending ≡ Record None place r → place.round ≤ b.round
untimed_in_round Nothing b place r after is = cc
untimed_in_round (Record None place' r') b place r after is = subst (λ n. n ≤ b.round) (ap pending_round (sym after.0 ∙ is)) after.1
untimed_in_round (Record (Some key) place' r') b place r after is = cc
untimed_in_round End b place r after is = let same = after.0 in cc
untimed_in_round (Failure e) b place r after is = let same = after.0 in cc

pub none_held : (s : Sorter ℕ Entry) → available_of s ≡ [] → pending_of s ≡ [] → held_of s ≡ []
none_held s available pending = sym (held_split s) ∙ ap (λ xs. xs ++ pending_of s) available ∙ pending

-- After a call that changed nothing, with nothing available.
pub none_held_after : (s t : Sorter ℕ Entry) → available_of s ≡ [] → IsUnchanged s t → pending_of s ≡ [] → held_of t ≡ []
none_held_after s t available unchanged pending = unchanged.held ∙ none_held s available pending

pub end_returned : (a b c : InMemoryOrderedRecords) (f g : PerfFile) → Progress a f b g → c ≡ b → b.pending ≡ End → held_of b.sorter ≡ [] → EndReturned a f c g
end_returned a b c f g p same is held = record {
  before = subst (λ s. Progress a f s g) (sym same) p;
  at_end = ap (λ s. s.pending) same ∙ is;
  all_returned = ap (λ s. held_of s.sorter) same ∙ held;
}

-- ---- a call ends

-- What is left to do: bytes to read, and a record to place.
abbrev pub work_of : InMemoryOrderedRecords → ℕ
work_of s = 2 * (2 ^ 64 - s.records.records.offset) + pending_records s.pending

-- A record that was placed is pending only if it has no time.
none_after : (key : Option ℕ) (place : RecordPlace) (r : PerfFileRecord) (p : InMemoryOrderedRecords) → AfterPlacing (Record key place r) p → HasNoUntimed p.pending → p.pending ≡ Nothing
none_after None place r p after no_untimed = absurd (subst (λ q. HasNoUntimed q) after.0 no_untimed)
none_after (Some key) place r p after no_untimed = after

placed_record : (q : PendingStep) (p : InMemoryOrderedRecords) → IsPending q → AfterPlacing q p → HasNoUntimed p.pending → p.pending ≢ End → ((e : Error) → p.pending ≢ Failure e) → (pending_records q ≡ 1) × (p.pending ≡ Nothing)
placed_record Nothing p pending after no_untimed not_end not_failed = absurd pending
placed_record (Record key place r) p pending after no_untimed not_end not_failed = (refl, none_after key place r p after no_untimed)
placed_record End p pending after no_untimed not_end not_failed = absurd (not_end after.0)
placed_record (Failure e) p pending after no_untimed not_end not_failed = absurd (not_failed e after.0)

falls_by_record : (old new n m : ℕ) → old ≡ new → n ≡ 1 → m ≡ 0 → 2 * (2 ^ 64 - new) + m < 2 * (2 ^ 64 - old) + n
falls_by_record old new n m same one none = omega arith

falls_by_read : (old new n m : ℕ) → old + 8 ≤ new → new < 2 ^ 64 → m ≡ 0 → 2 * (2 ^ 64 - new) + m < 2 * (2 ^ 64 - old) + n
falls_by_read old new n m rises fits none = omega arith

pub work_falls : (s b p : InMemoryOrderedRecords) (f g : PerfFile) → ReadsPending s f b g → AfterPlacing b.pending p → p.records ≡ b.records → HasNoUntimed p.pending → p.pending ≢ End → ((e : Error) → p.pending ≢ Failure e) → work_of p < work_of s
work_falls s b p f g (inl (pending, same, same_file)) after same_records no_untimed not_end not_failed =
    let placed = placed_record s.pending p pending (subst (λ q. AfterPlacing q.pending p) same after) no_untimed not_end not_failed in
    falls_by_record s.records.records.offset p.records.records.offset (pending_records s.pending) (pending_records p.pending)
    (sym (ap (λ r. r.records.offset) same_records ∙ ap (λ q. q.records.records.offset) same)) placed.0 (ap pending_records placed.1)
work_falls s b p f g (inr (inl (key, (place, (r, read))))) after same_records no_untimed not_end not_failed =
    let rises = offset_rises s.records b.records f g place r read.returned in
    let nothing = none_after key place r p (subst (λ q. AfterPlacing q p) read.pending after) no_untimed in
    let same = ap (λ r. r.records.offset) same_records in
    falls_by_read s.records.records.offset p.records.records.offset (pending_records s.pending) (pending_records p.pending)
    (subst (λ n. s.records.records.offset + 8 ≤ n) (sym same) rises.0) (subst (λ n. n < 2 ^ 64) (sym same) rises.1) (ap pending_records nothing)
work_falls s b p f g (inr (inr (inl read))) after same_records no_untimed not_end not_failed =
    let placed = subst (λ q. AfterPlacing q p) read.pending after in absurd (not_end placed.0)
work_falls s b p f g (inr (inr (inr (e, read)))) after same_records no_untimed not_end not_failed =
    let placed = subst (λ q. AfterPlacing q p) read.pending after in absurd (not_failed e placed.0)
