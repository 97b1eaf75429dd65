-- The steps of a call over a source.
use Rattle.std.specs.Prelude.{IfSome, Vec}
use Rattle.std.specs.declared.alloc.Global.{Global}
use Rattle.std.proofs.Common.{◌≡◌, ℕ, ◌+◌, ◌-◌, ◌*◌, ◌^◌, ◌<◌, ◌≤◌, ◌⊎◌, List, [], ◌∷◌, ◌++◌, length, min, Option, None, Some, Result, Ok, Err, Bool, true, false, not, refl, sym, ap, ◌∙◌, subst, inl, inr, arith}
use Rattle.std.proofs.lemmas.List.Sorted.{length_permutation}
use Rattle.std.specs.Ordering.{nat_cmp}
use Rattle.std.specs.declared.alloc.AllocError.{AllocError}
use Rattle.perfdata_sources.specs.Source.{State}
use Rattle.perfdata_sections.specs.declared.error.Error.{Error}
use Rattle.linux_perf_data.specs.declared.records.iter.PerfRecordIter.{PerfRecordIter}
use Rattle.linux_perf_data.specs.declared.perf_file.PerfFile.{PerfFile}
use Rattle.linux_perf_data.specs.Iter.{ReturnsRecord}
use Rattle.linux_perf_data.specs.Items.{ReturnsNextRecord, ReturnsRoundEnd}
use Rattle.linux_perf_data.proofs.RecordHeaders.{record_least}
use Rattle.linux_perf_data.specs.Layout.{RecordView}
use Rattle.perfdata_order.specs.declared.held_record.RecordEnvelope.{RecordEnvelope}
use Rattle.perfdata_order.specs.declared.held_record.HeldRecord.{HeldRecord}
use Rattle.perfdata_order.specs.declared.sorter.Sorter.{Sorter}
use Rattle.perfdata_order.specs.declared.held_records.HeldRecords.{HeldRecords}
use Rattle.perfdata_order.specs.declared.streaming.PendingStep.{PendingStep}
use Rattle.perfdata_order.specs.declared.streaming.PendingStep.TheVariants as variant
use Rattle.perfdata_order.specs.declared.streaming.OrderedRecords.{OrderedRecords}
use Rattle.perfdata_order.specs.HeldRecord.{view_with, held_view, held_size}
use Rattle.perfdata_order.specs.Sorter.{held_of, available_of, pending_of, IsUnchanged, TestsAvailable, Inserted, HalfReleased, EndsRound, EndsAllRounds}
use Rattle.perfdata_order.specs.SorterLaws.Call.{inserts, ends_round, ends_all, releases, returns, keeps}
use Rattle.perfdata_order.specs.StreamingOrder.{Unplaced, unplaced_by, unplaced_of, after_round, AfterPlacing, PlacesPending, IsUnplaced, EndReturned, RecordReturned, Step, returned_in, TakesStep, TakesSteps, Progress, Places, ReadsPending, ReadsWaiting, ReadsAndHolds, PassesPending, KeepsSorter, EndsRounds, InsertsPending, ReturnsSorted, FailsInOrder, IsOneRoundLater, IsLaterOrLast, SameBudget, FitsBudget, IsAdmitted, HasAvailable, AdmitsPending, ReleasesForPending, budget_of, early_of, held_bytes_of}
use Rattle.perfdata_order.specs.steps.StreamingOrder.{IsOngoing, pending_records, HasNoUntimed, EndsRoundsBefore, TakesEnd, ReleasesEarly, MayInsert, with_pending}
use Rattle.perfdata_order.specs.StreamingOrder.Unplaced.{nothing, waiting, round_ending, ending, failing, failed}
use Rattle.perfdata_order.specs.StreamingOrder.Step.{reads, reads_round_end, passes, reads_end, reads_error, sorts, reports}
use Rattle.perfdata_order.specs.steps.Reading.{IsUpToRound, ReadsAndInserts}
use Rattle.perfdata_order.specs.Times.{time_key_of}
use Rattle.perfdata_order.proofs.SorterCalls.{held_split}

pub none_append : (ss ts : List Step) → returned_in ss ≡ [] → returned_in ts ≡ [] → returned_in (ss ++ ts) ≡ []
none_append [] ts none more = more
none_append (reads key h ∷ ss) ts none more = none_append ss ts none more
none_append (reads_round_end ended ∷ ss) ts none more = none_append ss ts none more
none_append (passes h ∷ ss) ts none more = cc
none_append (reads_end ∷ ss) ts none more = none_append ss ts none more
none_append (reads_error e ∷ ss) ts none more = none_append ss ts none more
none_append (sorts (inserts key held) ∷ ss) ts none more = none_append ss ts none more
none_append (sorts ends_round ∷ ss) ts none more = none_append ss ts none more
none_append (sorts ends_all ∷ ss) ts none more = none_append ss ts none more
none_append (sorts releases ∷ ss) ts none more = none_append ss ts none more
none_append (sorts (returns key held) ∷ ss) ts none more = cc
none_append (sorts keeps ∷ ss) ts none more = none_append ss ts none more
none_append (reports e ∷ ss) ts none more = none_append ss ts none more

-- After the end of the source, or after an error.
abbrev pub IsLast : Unplaced → Type 0
IsLast nothing = ⊥
IsLast (waiting key h) = ⊥
IsLast round_ending = ⊥
IsLast ending = Unit {0}
IsLast (failing e) = Unit {0}
IsLast failed = Unit {0}

-- A record is pending.
abbrev IsWaiting : Unplaced → Type 0
IsWaiting nothing = ⊥
IsWaiting (waiting key h) = Unit {0}
IsWaiting round_ending = ⊥
IsWaiting ending = ⊥
IsWaiting (failing e) = ⊥
IsWaiting failed = ⊥

-- The round of the pending record.
abbrev unplaced_round : Unplaced → ℕ
unplaced_round nothing = 0
unplaced_round (waiting key h) = h.round
unplaced_round round_ending = 0
unplaced_round ending = 0
unplaced_round (failing e) = 0
unplaced_round failed = 0

-- The body of a pending record.
abbrev pub unplaced_body : Unplaced → List ℕ
unplaced_body nothing = []
unplaced_body (waiting key h) = h.body
unplaced_body round_ending = []
unplaced_body ending = []
unplaced_body (failing e) = []
unplaced_body failed = []

pub body_read : (p : PendingStep) (body : List ℕ) (key : Option ℕ) (h : RecordView) → unplaced_by p body ≡ waiting key h → body ≡ h.body
body_read variant.Nothing body key h is = cc
body_read (variant.Record key' envelope) body key h is = ap unplaced_body is
body_read variant.RoundEnd body key h is = cc
body_read variant.End body key h is = cc
body_read (variant.Failure e) body key h is = cc
body_read variant.Failed body key h is = cc

abbrev pub with_parts : {R : Type 0} → OrderedRecords R → HeldRecords → PendingStep → ℕ → OrderedRecords R
with_parts s held pending held_bytes = record s { held = held; pending = pending; held_bytes = held_bytes }

abbrev pub with_held : {R : Type 0} → OrderedRecords R → HeldRecords → OrderedRecords R
with_held s held = record s { held = held }

pub bytes_added : (old size held new : ℕ) → held ≡ size → new ≡ min (old + size) 18446744073709551615 → old + held < 2 ^ 64 → new ≡ old + held
bytes_added old size held new same sum fits = omega (arith, same, sum, fits)

module _ {R : Type 0} (state : R → State) where
  pub steps_append : (ss ts : List Step) (a b c : OrderedRecords R) (f g h : PerfFile) → TakesSteps state ss a f b g → TakesSteps state ts b g c h → TakesSteps state (ss ++ ts) a f c h
  steps_append [] ts a b c f g h (same, same_file) more = subst (λ s. TakesSteps state ts s f c h) same (subst (λ q. TakesSteps state ts b q c h) same_file more)
  steps_append (s ∷ ss) ts a b c f g h (next, (next_file, step, rest)) more = (next, (next_file, step, steps_append ss ts next b c next_file g h rest more))

  one_step : (step : Step) (a b : OrderedRecords R) (f g : PerfFile) → TakesStep state step a f b g → TakesSteps state (step ∷ []) a f b g
  one_step step a b f g taken = (b, (g, taken, (refl, refl)))

  -- ---- steps that return nothing

  pub no_progress : (a : OrderedRecords R) (f : PerfFile) → Progress state a f a f
  no_progress a f = record { steps = []; none_returned = refl; taken = (refl, refl) }

  pub progress_more : (a b c : OrderedRecords R) (f g h : PerfFile) → Progress state a f b g → (step : Step) → returned_in (step ∷ []) ≡ [] → TakesStep state step b g c h → Progress state a f c h
  progress_more a b c f g h p step none taken = record {
    steps = p.steps ++ step ∷ [];
    none_returned = none_append p.steps (step ∷ []) p.none_returned none;
    taken = steps_append p.steps (step ∷ []) a b c f g h p.taken (one_step step b c g h taken);
  }

  pub progress_places : (a b c : OrderedRecords R) (f g : PerfFile) → Progress state a f b g → Places state b c → Progress state a f c g
  progress_places a b c f g p q = record {
    steps = p.steps ++ q.steps;
    none_returned = none_append p.steps q.steps p.none_returned q.none_returned;
    taken = steps_append p.steps q.steps a b c f g g p.taken (q.taken g);
  }

  pub progress_read : (a b c : OrderedRecords R) (f g h : PerfFile) → Progress state a f b g → ReadsPending state b g c h → Progress state a f c h
  progress_read a b c f g h p (inl (pending, same, same_file)) = subst (λ s. Progress state a f s h) (sym same) (subst (λ q. Progress state a f b q) (sym same_file) p)
  progress_read a b c f g h p (inr (inl (key, (view, held)))) = progress_places a held.read c f h (progress_more a b held.read f g h p (reads key view) refl held.was_read) held.places
  progress_read a b c f g h p (inr (inr (inl (ended, read)))) = progress_more a b c f g h p (reads_round_end ended) refl read
  progress_read a b c f g h p (inr (inr (inr (inl read)))) = progress_more a b c f g h p reads_end refl read
  progress_read a b c f g h p (inr (inr (inr (inr (e, read))))) = progress_more a b c f g h p (reads_error e) refl read

  pub progress_kept : (a b c : OrderedRecords R) (f g : PerfFile) → Progress state a f b g → KeepsSorter b c → Progress state a f c g
  progress_kept a b c f g p kept = progress_more a b c f g g p (sorts keeps) refl (kept, refl)

  -- Nothing was read, and the file is the same.
  pub progress_unread : (a b c : OrderedRecords R) (f g h : PerfFile) → Progress state a f b g → KeepsSorter b c → h ≡ g → Progress state a f c h
  progress_unread a b c f g h p kept same_file = subst (λ q. Progress state a f c q) (sym same_file) (progress_kept a b c f g p kept)

  pub sorted_returned : (a b c : OrderedRecords R) (f g : PerfFile) (key : ℕ) (held : HeldRecord) (h : RecordView) → Progress state a f b g → ReturnsSorted b key held c → h ≡ held_view held → RecordReturned state a f h c g
  sorted_returned a b c f g key held h p returned is = record {
    middle = b;
    middle_file = g;
    before = p;
    step = sorts (returns key held);
    returns_record = ap (λ x. x ∷ []) (sym is);
    taken = (returned, refl);
  }

  pub untimed_returned : (a b c : OrderedRecords R) (f g : PerfFile) (view : RecordView) → Progress state a f b g → PassesPending b view c → RecordReturned state a f view c g
  untimed_returned a b c f g view p passed = record {
    middle = b;
    middle_file = g;
    before = p;
    step = passes view;
    returns_record = refl;
    taken = (passed, refl);
  }

  -- No call of the sorter.
  pub keeps_itself : (s : OrderedRecords R) → KeepsSorter s s
  keeps_itself s = record {
    unchanged = record { available = refl; pending = refl; held = refl; limit = refl; greatest = refl; slots = record { kept = omega arith; few = omega arith } };
    pending = refl;
    same_records = refl;
    round = refl;
    same_budget = record { budget = refl; held_bytes = refl; early = refl };
  }

  -- ---- placing what is pending

  pub places_none : (a b : OrderedRecords R) → b ≡ a → Places state a b
  places_none a b same = record { steps = []; none_returned = refl; taken = λ file. (same, refl) }

  pub places_more : (a b c : OrderedRecords R) → Places state a b → (step : Step) → returned_in (step ∷ []) ≡ [] → ((file : PerfFile) → TakesStep state step b file c file) → Places state a c
  places_more a b c p step none taken = record {
    steps = p.steps ++ step ∷ [];
    none_returned = none_append p.steps (step ∷ []) p.none_returned none;
    taken = λ file. steps_append p.steps (step ∷ []) a b c file file file (p.taken file) (one_step step b c file file (taken file));
  }

  pub places_kept : (a b c : OrderedRecords R) → Places state a b → KeepsSorter b c → Places state a c
  places_kept a b c p kept = places_more a b c p (sorts keeps) refl (λ file. (kept, refl))

  pub places_ended : (a b c : OrderedRecords R) → Places state a b → EndsRounds b c → Places state a c
  places_ended a b c p ended = places_more a b c p (sorts ends_all) refl (λ file. (ended, refl))

  pub places_inserted : (a b c : OrderedRecords R) (key : ℕ) (held : HeldRecord) → Places state a b → InsertsPending b key held c → Places state a c
  places_inserted a b c key held p inserted = places_more a b c p (sorts (inserts key held)) refl (λ file. (inserted, refl))

  -- What the end of the rounds before a pending record leaves.
  pub record RoundsPlaced (a : OrderedRecords R) (h : RecordView) (b : OrderedRecords R) : Type 0 where
    pub places : Places state a b
    pub pending : unplaced_of b ≡ unplaced_of a
    pub same_records : b.records ≡ a.records
    pub in_round : h.round ≤ b.round

  pub rounds_placed : (a b : OrderedRecords R) (key : Option ℕ) (h : RecordView) → unplaced_of a ≡ waiting key h → EndsRoundsBefore a h.round (Ok tt) b → RoundsPlaced a h b
  rounds_placed a b key h was (inl (le, same)) = record {
    places = places_none a b same;
    pending = ap (λ s. unplaced_of s) same;
    same_records = ap (λ s. s.records) same;
    in_round = subst (λ s. h.round ≤ s.round) (sym same) le;
  }
  rounds_placed a b key h was (inr (inl one)) = record {
    places = places_more a a b (places_none a a refl) (sorts ends_round) refl (λ file. (
      record {
        round = subst (λ p. IsOneRoundLater p a.round b.round) (sym was) (one.is_next, one.round);
        ended = one.ended;
        pending = subst (λ p. unplaced_of b ≡ after_round p) (sym was) (one.pending ∙ was);
        same_records = one.same_records;
        same_budget = one.same_budget;
      },
      refl,
    ));
    pending = one.pending;
    same_records = one.same_records;
    in_round = subst (λ n. h.round ≤ n) (sym one.round) (omega arith);
  }
  rounds_placed a b key h was (inr (inr all)) = record {
    places = places_more a a b (places_none a a refl) (sorts ends_all) refl (λ file. (
      record {
        round = subst (λ p. IsLaterOrLast p a.round b.round) (sym was) (all.is_later, all.round);
        ended = all.ended;
        pending = all.pending;
        same_records = all.same_records;
        same_budget = all.same_budget;
      },
      refl,
    ));
    pending = all.pending;
    same_records = all.same_records;
    in_round = subst (λ n. h.round ≤ n) (sym all.round) (omega arith);
  }

  -- ---- admission of the pending record

  half_available : (old new : Sorter ℕ HeldRecord) → HalfReleased nat_cmp old new → 0 < length (held_of old) → available_of new ≡ [] → ⊥
  half_available old new half some none =
      let same : pending_of new ≡ held_of new = sym (ap (λ xs. xs ++ pending_of new) none) ∙ held_split new in
      let rest = ap length same in
      let all = length_permutation (held_of old) (held_of new) half.sorts.each_once in
      let le = half.half.0 in
      absurd (omega (arith, rest, all, le, some))

  admitted_after : (a b c : OrderedRecords R) (key : ℕ) (h : RecordView) (more : Bool) → unplaced_of a ≡ waiting (Some key) h → RoundsPlaced a h b → ReleasesEarly b (held_size h) (Ok tt) c → TestsAvailable c.held.sorter more → AdmitsPending state a h (Ok (not more)) c
  admitted_after a b c key h true was placed (inl (admission, same)) some = record {
    places = subst (λ s. Places state a s) (sym same) placed.places;
    pending = ap (λ s. unplaced_of s) same ∙ placed.pending;
    same_records = ap (λ s. s.records) same ∙ placed.same_records;
    available = some;
  }
  admitted_after a b c key h false was placed (inl (admission, same)) none = record {
    places = subst (λ s. Places state a s) (sym same) placed.places;
    pending = ap (λ s. unplaced_of s) same ∙ placed.pending;
    same_records = ap (λ s. s.records) same ∙ placed.same_records;
    in_round = subst (λ s. h.round ≤ s.round) (sym same) placed.in_round;
    none_available = none;
    fits_budget = subst (λ s. FitsBudget s (held_size h)) (sym same) admission;
  }
  admitted_after a b c key h true was placed (inr early) some = record {
    places = places_more a b c placed.places (sorts releases) refl (λ file. (subst (λ q. ReleasesForPending q b c) (sym (placed.pending ∙ was)) early, refl));
    pending = early.pending ∙ placed.pending;
    same_records = early.same_records ∙ placed.same_records;
    available = some;
  }
  admitted_after a b c key h false was placed (inr early) none = absurd (half_available b.held.sorter c.held.sorter early.released early.some_held none)

  pub pending_admitted : (a b c : OrderedRecords R) (key : ℕ) (h : RecordView) (more : Bool) → unplaced_of a ≡ waiting (Some key) h → EndsRoundsBefore a h.round (Ok tt) b → ReleasesEarly b (held_size h) (Ok tt) c → TestsAvailable c.held.sorter more → AdmitsPending state a h (Ok (not more)) c
  pending_admitted a b c key h more was ended released tests = admitted_after a b c key h more was (rounds_placed a b (Some key) h was ended) released tests

  -- Records are available after the rounds ended.
  pub available_made : (a b : OrderedRecords R) (key : ℕ) (h : RecordView) → unplaced_of a ≡ waiting (Some key) h → EndsRoundsBefore a h.round (Ok tt) b → 0 < length (available_of b.held.sorter) → HasAvailable state a b
  available_made a b key h was ended some =
      let placed = rounds_placed a b (Some key) h was ended in
      record { places = placed.places; pending = placed.pending; same_records = placed.same_records; available = some }

  -- ---- holding a record that was read

  -- The record was read, and then inserted.
  pub read_inserted : (old read new : OrderedRecords R) (file file' : PerfFile) (key : ℕ) (h : RecordView) → ReadsWaiting state old file (Some key) h read file' → (held : HeldRecord) → InsertsPending read key held new → ReadsAndHolds state old file (Some key) h new file'
  read_inserted old read new file file' key h was_read held inserted = record {
    read = read;
    was_read = was_read;
    places = places_inserted read read new key held (places_none read read refl) inserted;
    pending = inl inserted.pending;
    same_records = inserted.same_records;
  }

  -- The record was read, and is pending.
  pub read_kept : (old read new : OrderedRecords R) (file file' : PerfFile) (key : Option ℕ) (h : RecordView) → ReadsWaiting state old file key h read file' → KeepsSorter read new → ReadsAndHolds state old file key h new file'
  read_kept old read new file file' key h was_read kept = record {
    read = read;
    was_read = was_read;
    places = places_kept read read new (places_none read read refl) kept;
    pending = inr (kept.pending ∙ was_read.pending);
    same_records = kept.same_records;
  }

  may_insert : (s : OrderedRecords R) (last : Option ℕ) (round : ℕ) → IfSome last (λ r. MayInsert s r) → IsUpToRound last round → MayInsert s round
  may_insert s None round may below = absurd below
  may_insert s (Some r) round may below = record { in_round = (let within = may.in_round in omega (arith, within, below)); no_budget = may.no_budget; none_available = may.none_available }

  -- The record was inserted as soon as it was read. Its body is also in the buffer of the iterator.
  pub read_and_inserted : (old new : OrderedRecords R) (file file' : PerfFile) (last : Option ℕ) (size : ℕ) (body : Vec ℕ Global) → unplaced_of old ≡ nothing → IfSome last (λ r. MayInsert (record old { body = body }) r)
      → ReadsAndInserts state old.records file old.held last size new.held new.records file' → unplaced_of new ≡ nothing → new.round ≡ old.round → budget_of new ≡ budget_of old → early_of new ≡ early_of old
      → held_bytes_of new ≡ min (held_bytes_of old + size) 18446744073709551615 → ReadsPending state old file new file'
  read_and_inserted old new file file' last size body none may read none_after same_round budget early bytes =
      let envelope = read.envelope in
      let h = view_with envelope read.body in
      let key = read.inserts.key in
      let middle = with_pending (record old { records = new.records; body = new.records.body }) (Some key) envelope in
      let can = may_insert (record old { body = body }) last envelope.place.round may read.inserts.may_hold.in_round in
      let was_read : ReadsWaiting state old file (Some key) h middle file' = record {
        nothing_pending = none;
        none_available = can.none_available;
        returned = read.returned;
        has_time = read.inserts.may_hold.has_time;
        pending = ap (λ b. waiting (Some key) (view_with envelope b)) read.returned.returned.buffered_body;
        same_order = record { sorter = refl; round = refl; same_budget = record { budget = refl; held_bytes = refl; early = refl } };
      } in
      let done = read.inserts.inserted in
      let is : held_size (held_view done.0) ≡ size = ap (λ x. held_size x) done.1.1 ∙ sym read.inserts.counts in
      let small = read.inserts.may_hold.is_small in
      let counts = read.inserts.counts in
      inr (inl (
        Some key,
        (
          h,
          read_inserted old middle new file file' key h was_read done.0 (record {
            was_pending = was_read.pending ∙ ap (λ x. waiting (Some key) x) (sym done.1.1);
            in_round = subst (λ x. x.round ≤ old.round) (sym done.1.1) can.in_round;
            none_available = can.none_available;
            fits_budget = inl can.no_budget;
            size_fits = omega (arith, is, small, counts);
            inserted = done.1.0;
            pending = none_after;
            same_records = refl;
            round = same_round;
            budget = budget;
            early = early;
            held_bytes = bytes_added old.held_bytes size (held_size (held_view done.0)) new.held_bytes is bytes;
          }),
        ),
      ))

  -- The record was read, and its body copied. It is pending.
  pub read_and_copied : (old new : OrderedRecords R) (file file' : PerfFile) (envelope : RecordEnvelope) → unplaced_of old ≡ nothing → available_of old.held.sorter ≡ [] → ReturnsNextRecord state old.records file (view_with envelope new.body.items) new.records file'
      → IsUnchanged old.held.sorter new.held.sorter → unplaced_of new ≡ waiting (time_key_of envelope.place) (view_with envelope new.body.items) → new.round ≡ old.round → SameBudget old new → ReadsPending state old file new file'
  read_and_copied old new file file' envelope none none_available returned unchanged is same_round same_budget =
      let key = time_key_of envelope.place in
      let h = view_with envelope new.body.items in
      let middle = with_pending (record old { records = new.records; body = new.body }) key envelope in
      let was_read : ReadsWaiting state old file key h middle file' = record {
        nothing_pending = none;
        none_available = none_available;
        returned = returned;
        has_time = refl;
        pending = refl;
        same_order = record { sorter = refl; round = refl; same_budget = record { budget = refl; held_bytes = refl; early = refl } };
      } in
      inr (inl (key, (h, read_kept old middle new file file' key h was_read (record { unchanged = unchanged; pending = is; same_records = refl; round = same_round; same_budget = record { budget = same_budget.budget; held_bytes = same_budget.held_bytes; early = same_budget.early } }))))

  -- ---- what a record or a marker that was read shows of the offset

  pub offset_rises : (old new : PerfRecordIter R) (file file' : PerfFile) (h : RecordView) → ReturnsRecord state old file h new file' → (old.offset + 8 ≤ new.offset) × (new.offset < 2 ^ 64)
  offset_rises old new file file' h returned =
      let at = returned.record_offset in
      let offset = returned.offset in
      (omega (arith, at, offset), returned.offset_fits)

  pub offset_after_marker : (old new : PerfRecordIter R) (file file' : PerfFile) (ended : ℕ) → ReturnsRoundEnd state old file ended new file' → (old.offset + 8 ≤ new.offset) × (new.offset < 2 ^ 64)
  offset_after_marker old new file file' ended r =
      let least = record_least old.endian r.marker r.is_record in
      let offset = r.offset in
      (omega (arith, least, offset), r.offset_fits)

  -- ---- what placing leaves

  pub record_placed : (a b c : OrderedRecords R) (key : ℕ) (envelope : RecordEnvelope) (held : HeldRecord) → unplaced_of a ≡ waiting (Some key) (view_with envelope a.body.items) → IsAdmitted state a (view_with envelope a.body.items) b
      → held_view held ≡ view_with envelope b.body.items → Inserted nat_cmp b.held.sorter key held c.held.sorter
      → unplaced_of c ≡ nothing → c.records ≡ b.records → c.round ≡ b.round → budget_of c ≡ budget_of b → early_of c ≡ early_of b → held_size (held_view held) < 2 ^ 64
      → (held_bytes_of b + held_size (held_view held) < 2 ^ 64 → held_bytes_of c ≡ held_bytes_of b + held_size (held_view held)) → Places state a c × AfterPlacing state (unplaced_of a) c × (c.records ≡ a.records)
  record_placed a b c key envelope held was placed copied inserted none same_records same_round budget early size_fits bytes =
      let now = placed.pending ∙ was in
      let is = copied ∙ ap (λ body. view_with envelope body) (body_read b.pending b.body.items (Some key) (view_with envelope a.body.items) now) in (
        places_inserted a b c key held placed.places (record {
          was_pending = now ∙ ap (λ h. waiting (Some key) h) (sym is);
          in_round = subst (λ h. h.round ≤ b.round) (sym is) placed.in_round;
          none_available = placed.none_available;
          fits_budget = subst (λ h. FitsBudget b (held_size h)) (sym is) placed.fits_budget;
          size_fits = size_fits;
          inserted = inserted;
          pending = none;
          same_records = same_records;
          round = same_round;
          budget = budget;
          early = early;
          held_bytes = bytes;
        }),
        subst (λ q. AfterPlacing state q c) (sym was) (inl none),
        same_records ∙ placed.same_records,
      )

  -- The rounds before that of a pending record without a time ended, or nothing changed.
  pub untimed_placed : (a b : OrderedRecords R) (result : Result (Unit {0}) AllocError) (h : RecordView) → unplaced_of a ≡ waiting None h → EndsRoundsBefore a h.round result b → PlacesPending state a result b
  untimed_placed a b (Ok done) h was ended =
      let placed = rounds_placed a b None h was ended in
      (placed.places, subst (λ q. AfterPlacing state q b) (sym was) (placed.pending ∙ was, placed.in_round), placed.same_records)
  untimed_placed a b (Err e) h was kept = places_kept a a b (places_none a a refl) kept

  -- What the end of the pending round does to what is pending and to the round.
  abbrev pub EndsPendingRound : OrderedRecords R → Result (Unit {0}) AllocError → OrderedRecords R → Type 0
  EndsPendingRound a (Ok done) c = (unplaced_of c ≡ nothing) × (c.round ≡ min (a.round + 1) 18446744073709551615)
  EndsPendingRound a (Err e) c = (unplaced_of c ≡ unplaced_of a) × (c.round ≡ a.round)

  ended : (a c : OrderedRecords R) → Places state a c → (q : Unplaced) → unplaced_of a ≡ q → AfterPlacing state q c → c.records ≡ a.records → Places state a c × AfterPlacing state (unplaced_of a) c × (c.records ≡ a.records)
  ended a c places q is after same_records = (places, subst (λ q. AfterPlacing state q c) (sym is) after, same_records)

  last_round : (q : Unplaced) (old new : ℕ) → IsLast q → new ≡ old → IsLaterOrLast q old new
  last_round nothing old new last same = absurd last
  last_round (waiting key h) old new last same = absurd last
  last_round round_ending old new last same = absurd last
  last_round ending old new last same = same
  last_round (failing e) old new last same = same
  last_round failed old new last same = same

  last_after : (q : Unplaced) (c : OrderedRecords R) → IsLast q → unplaced_of c ≡ q → pending_of c.held.sorter ≡ [] → AfterPlacing state q c
  last_after nothing c last same none = absurd last
  last_after (waiting key h) c last same none = absurd last
  last_after round_ending c last same none = absurd last
  last_after ending c last same none = (same, none)
  last_after (failing e) c last same none = (same, none)
  last_after failed c last same none = (same, none)

  pub last_placed : (a c : OrderedRecords R) (result : Result (Unit {0}) AllocError) (q : Unplaced) → IsLast q → unplaced_of a ≡ q → EndsAllRounds nat_cmp a.held.sorter result c.held.sorter → unplaced_of c ≡ unplaced_of a → c.records ≡ a.records → c.round ≡ a.round → SameBudget a c → PlacesPending state a result c
  last_placed a c (Ok done) q last is all pending same_records same_round same_budget =
      ended a c (places_ended a a c (places_none a a refl) (record { round = subst (λ p. IsLaterOrLast p a.round c.round) (sym is) (last_round q a.round c.round last same_round); ended = all; pending = pending; same_records = same_records; same_budget = same_budget }))
      q is (last_after q c last (pending ∙ is) all.pending) same_records
  last_placed a c (Err e) q last is unchanged pending same_records same_round same_budget =
      places_kept a a c (places_none a a refl) (record { unchanged = unchanged; pending = pending; same_records = same_records; round = same_round; same_budget = same_budget })

  -- The round whose end was pending ended, or nothing changed.
  pub round_end_placed : (a c : OrderedRecords R) (result : Result (Unit {0}) AllocError) → unplaced_of a ≡ round_ending → EndsRound nat_cmp a.held.sorter result c.held.sorter → EndsPendingRound a result c → c.records ≡ a.records → SameBudget a c → PlacesPending state a result c
  round_end_placed a c (Ok done) was round (pending, next) same_records same_budget =
      ended a c (places_more a a c (places_none a a refl) (sorts ends_round) refl (λ file. (
        record {
          round = subst (λ p. IsOneRoundLater p a.round c.round) (sym was) next;
          ended = round;
          pending = subst (λ p. unplaced_of c ≡ after_round p) (sym was) pending;
          same_records = same_records;
          same_budget = same_budget;
        },
        refl,
      )))
      round_ending was pending same_records
  round_end_placed a c (Err e) was unchanged (pending, same_round) same_records same_budget =
      places_kept a a c (places_none a a refl) (record { unchanged = unchanged; pending = pending; same_records = same_records; round = same_round; same_budget = same_budget })

  -- Nothing was placed, because records are available.
  pub available_placed : (a b : OrderedRecords R) (key : ℕ) (h : RecordView) → unplaced_of a ≡ waiting (Some key) h → HasAvailable state a b → Places state a b × AfterPlacing state (unplaced_of a) b × (b.records ≡ a.records)
  available_placed a b key h was made = (made.places, subst (λ q. AfterPlacing state q b) (sym was) (inr (made.pending ∙ was, made.available)), made.same_records)

  pub none_pending_at : (q p : Unplaced) (b : OrderedRecords R) → AfterPlacing state q b → IsLast p → unplaced_of b ≡ p → pending_of b.held.sorter ≡ []
  none_pending_at nothing p b after last is = absurd (subst (λ x. IsLast x) (sym is ∙ after) last)
  none_pending_at (waiting None h) p b after last is = absurd (subst (λ x. IsLast x) (sym is ∙ after.0) last)
  none_pending_at (waiting (Some key) h) p b (inl after) last is = absurd (subst (λ x. IsLast x) (sym is ∙ after) last)
  none_pending_at (waiting (Some key) h) p b (inr after) last is = absurd (subst (λ x. IsLast x) (sym is ∙ after.0) last)
  none_pending_at round_ending p b after last is = absurd (subst (λ x. IsLast x) (sym is ∙ after) last)
  none_pending_at ending p b after last is = after.1
  none_pending_at (failing e) p b after last is = after.1
  none_pending_at failed p b after last is = after.1

  -- The rounds before that of the pending record without a time ended.
  pub untimed_in_round : (q : Unplaced) (b : OrderedRecords R) (h : RecordView) → AfterPlacing state q b → unplaced_of b ≡ waiting None h → h.round ≤ b.round
  untimed_in_round nothing b h after is = absurd (subst (λ x. IsWaiting x) (sym is ∙ after) tt)
  untimed_in_round (waiting None h') b h after is = subst (λ n. n ≤ b.round) (ap unplaced_round (sym after.0 ∙ is)) after.1
  untimed_in_round (waiting (Some key) h') b h (inl after) is = absurd (subst (λ x. IsWaiting x) (sym is ∙ after) tt)
  untimed_in_round (waiting (Some key) h') b h (inr after) is = absurd (subst (λ x. HasNoUntimed x) (sym after.0 ∙ is) tt)
  untimed_in_round round_ending b h after is = absurd (subst (λ x. IsWaiting x) (sym is ∙ after) tt)
  untimed_in_round ending b h after is = absurd (subst (λ x. IsWaiting x) (sym is ∙ after.0) tt)
  untimed_in_round (failing e) b h after is = absurd (subst (λ x. IsWaiting x) (sym is ∙ after.0) tt)
  untimed_in_round failed b h after is = absurd (subst (λ x. IsWaiting x) (sym is ∙ after.0) tt)

  pub none_held : (s : Sorter ℕ HeldRecord) → available_of s ≡ [] → pending_of s ≡ [] → held_of s ≡ []
  none_held s available pending = sym (held_split s) ∙ ap (λ xs. xs ++ pending_of s) available ∙ pending

  -- After a call that changed nothing, with nothing available.
  pub none_held_after : (s t : Sorter ℕ HeldRecord) → available_of s ≡ [] → IsUnchanged s t → pending_of s ≡ [] → held_of t ≡ []
  none_held_after s t available unchanged pending = unchanged.held ∙ none_held s available pending

  pub end_returned : (a b c : OrderedRecords R) (f g : PerfFile) → Progress state a f b g → c ≡ b → unplaced_of b ≡ ending → held_of b.held.sorter ≡ [] → EndReturned state a f c g
  end_returned a b c f g p same is held = record {
    before = subst (λ s. Progress state a f s g) (sym same) p;
    at_end = ap (λ s. unplaced_of s) same ∙ is;
    all_returned = ap (λ s. held_of s.held.sorter) same ∙ held;
  }

  -- The error is returned. `q` was pending before `placed`, and nothing was available then.
  pub error_returned : (a placed kept c : OrderedRecords R) (f g : PerfFile) (q : Unplaced) (e : Error) → Progress state a f kept g → AfterPlacing state q placed → available_of placed.held.sorter ≡ [] → KeepsSorter placed kept
      → TakesEnd kept (Some (Err e)) c → FailsInOrder state a f e c g
  error_returned a placed kept c f g q e p after available unchanged (inl (was, now, same_records, same_order)) = inl (record {
    middle = kept;
    before = p;
    reported = record {
      was_pending = was;
      all_returned = none_held_after placed.held.sorter kept.held.sorter available unchanged.unchanged (none_pending_at q (failing e) placed after tt (sym unchanged.pending ∙ was));
      pending = now;
      same_records = same_records;
      same_order = same_order;
    };
  })
  error_returned a placed kept c f g q e p after available unchanged (inr (is, same, was)) = inr (inl (record {
    is_failed = is;
    before = subst (λ s. Progress state a f s g) (sym same) p;
    has_failed = ap (λ s. unplaced_of s) same ∙ was;
    all_returned = ap (λ s. held_of s.held.sorter) same ∙ none_held_after placed.held.sorter kept.held.sorter available unchanged.unchanged (none_pending_at q failed placed after tt (sym unchanged.pending ∙ was));
  }))

  -- ---- a call ends

  -- What is left to do: bytes to read, and a record or the end of a round to place.
  abbrev pub work_of : OrderedRecords R → ℕ
  work_of s = 2 * (2 ^ 64 - s.records.offset) + pending_records (unplaced_of s)

  -- A record that was placed is still pending only if it has no time.
  none_after : (key : Option ℕ) (h : RecordView) (p : OrderedRecords R) → AfterPlacing state (waiting key h) p → available_of p.held.sorter ≡ [] → HasNoUntimed (unplaced_of p) → unplaced_of p ≡ nothing
  none_after None h p after none no_untimed = absurd (subst (λ x. HasNoUntimed x) after.0 no_untimed)
  none_after (Some key) h p (inl after) none no_untimed = after
  none_after (Some key) h p (inr after) none no_untimed = let same = ap length none in let some = after.1 in absurd (omega (arith, same, some))

  -- A record that was read, and is in the sorter or was placed.
  none_held_pending : (q : Unplaced) (p : OrderedRecords R) (key : Option ℕ) (h : RecordView) → (q ≡ nothing) ⊎ (q ≡ waiting key h) → AfterPlacing state q p → available_of p.held.sorter ≡ [] → HasNoUntimed (unplaced_of p) → unplaced_of p ≡ nothing
  none_held_pending q p key h (inl is) after none no_untimed = subst (λ x. AfterPlacing state x p) is after
  none_held_pending q p key h (inr is) after none no_untimed = none_after key h p (subst (λ x. AfterPlacing state x p) is after) none no_untimed

  placed_record : (q : Unplaced) (p : OrderedRecords R) → IsUnplaced q → AfterPlacing state q p → available_of p.held.sorter ≡ [] → HasNoUntimed (unplaced_of p) → IsOngoing (unplaced_of p) → (pending_records q ≡ 1) × (unplaced_of p ≡ nothing)
  placed_record nothing p pending after none no_untimed ongoing = absurd pending
  placed_record (waiting key h) p pending after none no_untimed ongoing = (refl, none_after key h p after none no_untimed)
  placed_record round_ending p pending after none no_untimed ongoing = (refl, after)
  placed_record ending p pending after none no_untimed ongoing = absurd (subst (λ x. IsOngoing x) after.0 ongoing)
  placed_record (failing e) p pending after none no_untimed ongoing = absurd (subst (λ x. IsOngoing x) after.0 ongoing)
  placed_record failed p pending after none no_untimed ongoing = absurd (subst (λ x. IsOngoing x) after.0 ongoing)

  falls_by_record : (old new n m : ℕ) → old ≡ new → n ≡ 1 → m ≡ 0 → 2 * (2 ^ 64 - new) + m < 2 * (2 ^ 64 - old) + n
  falls_by_record old new n m same one none = omega arith

  falls_by_read : (old new n m : ℕ) → old + 8 ≤ new → new < 2 ^ 64 → m ≡ 0 → 2 * (2 ^ 64 - new) + m < 2 * (2 ^ 64 - old) + n
  falls_by_read old new n m rises fits none = omega arith

  pub work_falls : (s b p kept : OrderedRecords R) (f g : PerfFile) → ReadsPending state s f b g → AfterPlacing state (unplaced_of b) p → p.records ≡ b.records → available_of p.held.sorter ≡ [] → KeepsSorter p kept → HasNoUntimed (unplaced_of kept) → IsOngoing (unplaced_of kept) → work_of kept < work_of s
  work_falls s b p kept f g (inl (pending, same, same_file)) after same_records available unchanged no_untimed ongoing =
      let placed = placed_record (unplaced_of s) p pending (subst (λ q. AfterPlacing state (unplaced_of q) p) same after) available (subst (λ x. HasNoUntimed x) unchanged.pending no_untimed) (subst (λ x. IsOngoing x) unchanged.pending ongoing) in
      falls_by_record s.records.offset kept.records.offset (pending_records (unplaced_of s)) (pending_records (unplaced_of kept))
      (sym (ap (λ r. r.offset) unchanged.same_records ∙ ap (λ r. r.offset) same_records ∙ ap (λ q. q.records.offset) same)) placed.0 (ap pending_records (unchanged.pending ∙ placed.1))
  work_falls s b p kept f g (inr (inl (key, (h, held)))) after same_records available unchanged no_untimed ongoing =
      let rises = offset_rises s.records held.read.records f g h held.was_read.returned.returned in
      let none = none_held_pending (unplaced_of b) p key h held.pending after available (subst (λ x. HasNoUntimed x) unchanged.pending no_untimed) in
      let same = ap (λ r. r.offset) unchanged.same_records ∙ ap (λ r. r.offset) same_records ∙ ap (λ r. r.offset) held.same_records in
      falls_by_read s.records.offset kept.records.offset (pending_records (unplaced_of s)) (pending_records (unplaced_of kept))
      (subst (λ n. s.records.offset + 8 ≤ n) (sym same) rises.0) (subst (λ n. n < 2 ^ 64) (sym same) rises.1) (ap pending_records (unchanged.pending ∙ none))
  work_falls s b p kept f g (inr (inr (inl (ended, read)))) after same_records available unchanged no_untimed ongoing =
      let rises = offset_after_marker s.records b.records f g ended read.returned in
      let none = subst (λ q. AfterPlacing state q p) read.pending after in
      let same = ap (λ r. r.offset) unchanged.same_records ∙ ap (λ r. r.offset) same_records in
      falls_by_read s.records.offset kept.records.offset (pending_records (unplaced_of s)) (pending_records (unplaced_of kept))
      (subst (λ n. s.records.offset + 8 ≤ n) (sym same) rises.0) (subst (λ n. n < 2 ^ 64) (sym same) rises.1) (ap pending_records (unchanged.pending ∙ none))
  work_falls s b p kept f g (inr (inr (inr (inl read)))) after same_records available unchanged no_untimed ongoing =
      let placed = subst (λ q. AfterPlacing state q p) read.pending after in absurd (subst (λ x. IsOngoing x) (unchanged.pending ∙ placed.0) ongoing)
  work_falls s b p kept f g (inr (inr (inr (inr (e, read))))) after same_records available unchanged no_untimed ongoing =
      let placed = subst (λ q. AfterPlacing state q p) read.pending after in absurd (subst (λ x. IsOngoing x) (unchanged.pending ∙ placed.0) ongoing)
