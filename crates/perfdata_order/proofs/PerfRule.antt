-- The times that are returned ascend where the records of the input keep perf's rule.
use Rattle.std.proofs.Common.{◌≡◌, ℕ, ◌+◌, ◌≤◌, List, [], ◌∷◌, ◌++◌, get_or, map, All, Option, None, Some, refl, sym, ap, ◌∙◌, subst, inl, inr, arith}
use Rattle.std.specs.Prelude.{◌≢◌, ◌⊎◌}
use Rattle.std.specs.Ordering.{nat_cmp}
use Rattle.std.proofs.lemmas.List.Elements.{All-nil, All-cons, All-head, All-tail}
use Rattle.linux_perf_data.specs.declared.perf_file.PerfFile.{PerfFile}
use Rattle.linux_perf_data.specs.declared.records.iter.Stage.TheVariants.{Running}
use Rattle.linux_perf_data.specs.declared.records.iter.RecordPlace.{RecordPlace}
use Rattle.perfdata_records.specs.declared.record.PerfFileRecord.{PerfFileRecord}
use Rattle.perfdata_records.specs.declared.record.PerfFileRecord.TheVariants.{EventRecord, UserRecord}
use Rattle.linux_perf_data.specs.Layout.{RecordView}
use Rattle.linux_perf_data.specs.Laws.{OffsetsIncrease}
use Rattle.linux_perf_data.specs.RecordViews.{record_view_of}
use Rattle.perfdata_order.specs.declared.in_memory.PendingStep.{PendingStep}
use Rattle.perfdata_order.specs.declared.in_memory.PendingStep.TheVariants.{Nothing, Record, End, Failure}
use Rattle.perfdata_order.specs.declared.in_memory.InMemoryOrderedRecords.{InMemoryOrderedRecords}
use Rattle.perfdata_order.specs.Times.{time_key_of}
use Rattle.perfdata_order.specs.Order.{IsAtMost}
use Rattle.perfdata_order.specs.SorterLaws.{inserted_in_rounds, KeepsRoundRule}
use Rattle.perfdata_order.specs.SorterLaws.Call.{inserts, ends_round, ends_all, releases, returns, keeps}
use Rattle.perfdata_order.specs.InMemoryOrder.{Entry, Step, TakesStep, TakesSteps, IsOneRoundLater, IsLaterOrLast}
use Rattle.perfdata_order.specs.InMemoryOrder.Step.{reads, passes, reads_end, reads_error, sorts, reports}
use Rattle.perfdata_order.specs.InMemoryLaws.{read_in, calls_in, pending_entries, timed_by, timed_of, TimesAscendUnderPerfRule}
use Rattle.perfdata_order.proofs.AscendingRuns.{all_prefix}
use Rattle.perfdata_order.proofs.LayoutRounds.{RoundsFollow, rounds_follow}
use Rattle.perfdata_order.proofs.InMemorySteps.{times_ascend_under_rule, nothing_read, ended_runs, failed_runs, still_stopped}

abbrev pub Timed : Type 0
Timed = ℕ × (ℕ × Entry)

abbrev pub views : List Entry → List RecordView
views = map (λ (e : Entry). record_view_of e.0 e.1)

view_round : (place : RecordPlace) (r : PerfFileRecord) → (record_view_of place r).round ≡ place.round
view_round place (EventRecord index event) = refl
view_round place (UserRecord user) = refl

timed_later : (round : ℕ) (es : List Entry) → All (λ later. round ≤ later.round) (views es) → All (λ later. round ≤ later.0) (timed_of es)
timed_later round [] all = All-nil (λ (later : Timed). round ≤ later.0)
timed_later round (e ∷ es) all =
    let rest = timed_later round es (All-tail (λ later. round ≤ later.round) (record_view_of e.0 e.1) (views es) all) in
    let here = subst (λ n. round ≤ n) (view_round e.0 e.1) (All-head (λ later. round ≤ later.round) (record_view_of e.0 e.1) (views es) all) in
    elim (time_key_of e.0) as (λ k. All (λ later. round ≤ later.0) (timed_by k e ++ timed_of es)) [
      | None ↦ rest
      | Some time ↦ All-cons (λ later. round ≤ later.0) (e.0.round, (time, e)) (timed_of es) here rest
    ]

-- The timed records from the pending one on are of its round or of later ones.
pending_later : (key : Option ℕ) (place : RecordPlace) (r : PerfFileRecord) (es : List Entry) → RoundsFollow (views ((place, r) ∷ es)) → All (λ y. place.round ≤ y.0) (timed_by key (place, r) ++ timed_of es)
pending_later None place r es follow = timed_later place.round es (subst (λ n. All (λ later. n ≤ later.round) (views es)) (view_round place r) follow.0)
pending_later (Some time) place r es follow =
    All-cons (λ y. place.round ≤ y.0) (place.round, (time, (place, r))) (timed_of es) (omega arith) (timed_later place.round es (subst (λ n. All (λ later. n ≤ later.round) (views es)) (view_round place r) follow.0))

abbrev pub pending_timed : PendingStep → List Timed
pending_timed Nothing = []
pending_timed (Record key place r) = timed_by key (place, r)
pending_timed End = []
pending_timed (Failure e) = []

-- The timed records that are still to be inserted.
abbrev pub ahead : InMemoryOrderedRecords → List Step → List Timed
ahead s steps = pending_timed s.pending ++ timed_of (read_in steps)

-- The rounds of the records that are still to be placed don't fall.
abbrev pub RoundsRise : PendingStep → List Entry → Type 0
RoundsRise q es = RoundsFollow (views (pending_entries q ++ es))

pub rise_after : (step : Step) (steps : List Step) (s next : InMemoryOrderedRecords) (f g : PerfFile) → TakesStep step s f next g → RoundsRise s.pending (read_in (step ∷ steps)) → RoundsRise next.pending (read_in steps)
rise_after (reads key place r) steps s next f g taken rise = subst (λ q. RoundsRise q (read_in steps)) (sym taken.pending) (subst (λ q. RoundsRise q ((place, r) ∷ read_in steps)) taken.nothing_pending rise)
rise_after (passes place r) steps s next f g taken rise = subst (λ q. RoundsRise q (read_in steps)) (sym taken.0.pending) (subst (λ q. RoundsRise q (read_in steps)) taken.0.was_pending rise).1
rise_after reads_end steps s next f g taken rise = subst (λ q. RoundsRise q (read_in steps)) (sym taken.pending) (subst (λ q. RoundsRise q (read_in steps)) taken.nothing_pending rise)
rise_after (reads_error e) steps s next f g taken rise = subst (λ q. RoundsRise q (read_in steps)) (sym taken.pending) (subst (λ q. RoundsRise q (read_in steps)) taken.nothing_pending rise)
rise_after (sorts (inserts key entry)) steps s next f g taken rise = subst (λ q. RoundsRise q (read_in steps)) (sym taken.0.pending) (subst (λ q. RoundsRise q (read_in steps)) taken.0.was_pending rise).1
rise_after (sorts ends_round) steps s next f g taken rise = subst (λ q. RoundsRise q (read_in steps)) (sym taken.0.pending) rise
rise_after (sorts ends_all) steps s next f g taken rise = subst (λ q. RoundsRise q (read_in steps)) (sym taken.0.pending) rise
rise_after (sorts releases) steps s next f g taken rise = absurd taken.0
rise_after (sorts (returns key entry)) steps s next f g taken rise = subst (λ q. RoundsRise q (read_in steps)) (sym taken.0.pending) rise
rise_after (sorts keeps) steps s next f g taken rise = subst (λ q. RoundsRise q (read_in steps)) (sym taken.0.pending) rise
rise_after (reports e) steps s next f g taken rise = subst (λ q. RoundsRise q (read_in steps)) (sym taken.0.pending) (subst (λ q. RoundsRise q (read_in steps)) taken.0.was_pending rise)

-- An inserted entry with the round of its record.
abbrev as_timed : Timed → Timed
as_timed y = (y.1.1.0.round, y.1)

abbrev pub IsFinal : PendingStep → Type 0
IsFinal Nothing = ⊥
IsFinal (Record key place r) = ⊥
IsFinal End = Unit {0}
IsFinal (Failure e) = Unit {0}

-- The records of two rounds later are two rounds later in the sorter too.
abbrev IsInRounds : ℕ → ℕ → Timed → Type 0
IsInRounds n round y = (n + 1 ≤ y.0 → round + 1 ≤ y.1.1.0.round) × (n + 2 ≤ y.0 → round + 2 ≤ y.1.1.0.round)

record Follows (n round : ℕ) (inserted timed : List Timed) : Type 0 where
  rest : List Timed
  prefix : map as_timed inserted ++ rest ≡ timed
  bounds : All (IsInRounds n round) inserted
  rule : KeepsRoundRule nat_cmp inserted

from_map : (P : Timed → Type 0) (ys : List Timed) → All P (map as_timed ys) → All (λ y. P (as_timed y)) ys
from_map P [] all = All-nil (λ y. P (as_timed y))
from_map P (y ∷ ys) all = All-cons (λ y. P (as_timed y)) y ys (All-head P (as_timed y) (map as_timed ys) all) (from_map P ys (All-tail P (as_timed y) (map as_timed ys) all))

-- What holds of the timed records also holds of the inserted ones.
transfer : (P : Timed → Type 0) (ys rest timed : List Timed) → map as_timed ys ++ rest ≡ timed → All P timed → All (λ y. P (as_timed y)) ys
transfer P ys rest timed prefix all = from_map P ys (all_prefix P (map as_timed ys) rest (subst (λ es. All P es) (sym prefix) all))

follows_none : (n round : ℕ) (timed : List Timed) → Follows n round [] timed
follows_none n round timed = record { rest = timed; prefix = refl; bounds = All-nil (IsInRounds n round); rule = tt }

two_rounds : (n round first : ℕ) (y : Timed) → first ≤ round → (n + 2 ≤ y.0 → round + 2 ≤ y.1.1.0.round) → n + 2 ≤ y.0 → first + 2 ≤ y.1.1.0.round
two_rounds n round first y in_round bound le = let far = bound le in omega arith

follows_insert : (n round key : ℕ) (entry : Entry) (ys timed : List Timed) → entry.0.round ≤ round → All (λ later. entry.0.round + 2 ≤ later.0 → IsAtMost nat_cmp (key, entry) later.1) timed
    → Follows n round ys timed → Follows n round ((n, (key, entry)) ∷ ys) ((entry.0.round, (key, entry)) ∷ timed)
follows_insert n round key entry ys timed in_round all f =
    let known = transfer (λ later. entry.0.round + 2 ≤ later.0 → IsAtMost nat_cmp (key, entry) later.1) ys f.rest timed f.prefix all in
    record {
      rest = f.rest;
      prefix = ap (λ es. (entry.0.round, (key, entry)) ∷ es) f.prefix;
      bounds = All-cons (IsInRounds n round) (n, (key, entry)) ys (λ le. absurd (omega arith), λ le. absurd (omega arith)) f.bounds;
      rule = (λ i d lt le. known i d lt (two_rounds n round entry.0.round (get_or ys i d) in_round (f.bounds i d lt).1 le), f.rule);
    }

one_more : (n round : ℕ) (y : Timed) → (n + 1 + 1 ≤ y.0 → round + 1 + 1 ≤ y.1.1.0.round) → n + 2 ≤ y.0 → round + 2 ≤ y.1.1.0.round
one_more n round y bound le = let far = bound (omega arith) in omega arith

follows_round : (n round : ℕ) (ys timed : List Timed) → All (λ y. round + 1 ≤ y.0) timed → Follows (n + 1) (round + 1) ys timed → Follows n round ys timed
follows_round n round ys timed all f =
    let known = transfer (λ y. round + 1 ≤ y.0) ys f.rest timed f.prefix all in
    record {
      rest = f.rest;
      prefix = f.prefix;
      bounds = λ i d lt. (λ le. known i d lt, λ le. one_more n round (get_or ys i d) (f.bounds i d lt).0 le);
      rule = f.rule;
    }

follows_rounds : (n round to : ℕ) (ys timed : List Timed) → round + 2 ≤ to → All (λ y. to ≤ y.0) timed → Follows (n + 2) to ys timed → Follows n round ys timed
follows_rounds n round to ys timed later all f =
    let known = transfer (λ y. to ≤ y.0) ys f.rest timed f.prefix all in
    record {
      rest = f.rest;
      prefix = f.prefix;
      bounds = λ i d lt. let far = known i d lt in (λ le. omega (arith, far, later), λ le. omega (arith, far, later));
      rule = f.rule;
    }

follows_end : (n m round : ℕ) (ys timed : List Timed) → timed ≡ [] → Follows m round ys timed → Follows n round ys timed
follows_end n m round ys timed none f =
    let known = transfer (λ y. ⊥) ys f.rest timed f.prefix (subst (λ es. All (λ y. ⊥) es) (sym none) (All-nil (λ (y : Timed). ⊥))) in
    record { rest = f.rest; prefix = f.prefix; bounds = λ i d lt. absurd (known i d lt); rule = f.rule }

-- The end of rounds before the pending record.
pub one_round : (q : PendingStep) (es : List Entry) (old new : ℕ) → IsOneRoundLater q old new → RoundsRise q es → (new ≡ old + 1) × All (λ y. new ≤ y.0) (pending_timed q ++ timed_of es)
one_round Nothing es old new one rise = absurd one
one_round (Record key place r) es old new one rise =
    (one.1 ∙ one.0, subst (λ k. All (λ y. k ≤ y.0) (timed_by key (place, r) ++ timed_of es)) (sym one.1) (pending_later key place r es rise))
one_round End es old new one rise = absurd one
one_round (Failure e) es old new one rise = absurd one

pub later_rounds : (q : PendingStep) (es : List Entry) (old new : ℕ) → IsLaterOrLast q old new → RoundsRise q es → ((old + 2 ≤ new) × All (λ y. new ≤ y.0) (pending_timed q ++ timed_of es)) ⊎ ((new ≡ old) × IsFinal q)
later_rounds Nothing es old new later rise = absurd later
later_rounds (Record key place r) es old new later rise =
    inl (subst (λ k. old + 2 ≤ k) (sym later.1) later.0, subst (λ k. All (λ y. k ≤ y.0) (timed_by key (place, r) ++ timed_of es)) (sym later.1) (pending_later key place r es rise))
later_rounds End es old new later rise = inr (later, tt)
later_rounds (Failure e) es old new later rise = inr (later, tt)

none_pending : (q : PendingStep) → IsFinal q → pending_timed q ≡ []
none_pending Nothing final = absurd final
none_pending (Record key place r) final = absurd final
none_pending End final = refl
none_pending (Failure e) final = refl

-- What is known of the records ahead.
record Ahead (s : InMemoryOrderedRecords) (timed : List Timed) : Type 0 where
  from_round : All (λ y. s.round ≤ y.0) timed
  rule : KeepsRoundRule nat_cmp timed
  stopped : IsFinal s.pending → s.records.records.stage ≢ Running

-- The same records are ahead after the step.
same_ahead : (s t : InMemoryOrderedRecords) (before after : List Timed) → t.round ≡ s.round → before ≡ after → (IsFinal t.pending → t.records.records.stage ≢ Running) → Ahead s before → Ahead t after
same_ahead s t before after same_round same stopped h = record {
  from_round = subst (λ k. All (λ y. k ≤ y.0) after) (sym same_round) (subst (λ es. All (λ y. s.round ≤ y.0) es) same h.from_round);
  rule = subst (λ es. KeepsRoundRule nat_cmp es) same h.rule;
  stopped = stopped;
}

same_follows : (n : ℕ) (s t : InMemoryOrderedRecords) (ys before after : List Timed) → t.round ≡ s.round → before ≡ after → Follows n t.round ys after → Follows n s.round ys before
same_follows n s t ys before after same_round same f = subst (λ k. Follows n k ys before) same_round (subst (λ es. Follows n t.round ys es) (sym same) f)

not_final : (q p : PendingStep) → q ≡ p → (IsFinal p → ⊥) → IsFinal q → ⊥
not_final q p same never final = never (subst (λ x. IsFinal x) same final)

kept_stop : (s t : InMemoryOrderedRecords) → t.pending ≡ s.pending → t.records ≡ s.records → (IsFinal s.pending → s.records.records.stage ≢ Running) → IsFinal t.pending → t.records.records.stage ≢ Running
kept_stop s t pending same stopped final = still_stopped s t same (stopped (subst (λ x. IsFinal x) pending final))

all_ended : (n : ℕ) (steps : List Step) (s next : InMemoryOrderedRecords) → ahead s steps ≡ ahead next steps → Ahead s (ahead s steps) → (IsFinal next.pending → next.records.records.stage ≢ Running)
    → ((s.round + 2 ≤ next.round) × All (λ y. next.round ≤ y.0) (ahead s steps)) ⊎ ((next.round ≡ s.round) × IsFinal s.pending) → (IsFinal s.pending → read_in steps ≡ [])
    → (Ahead next (ahead next steps) → Follows (n + 2) next.round (inserted_in_rounds (n + 2) (calls_in steps)) (ahead next steps)) → Follows n s.round (inserted_in_rounds (n + 2) (calls_in steps)) (ahead s steps)
all_ended n steps s next same h stop (inl (later, all)) none more =
    let after : Ahead next (ahead s steps) = record { from_round = all; rule = h.rule; stopped = stop } in
    let f = more (same_ahead next next (ahead s steps) (ahead next steps) refl same stop after) in
    follows_rounds n s.round next.round (inserted_in_rounds (n + 2) (calls_in steps)) (ahead s steps) later all
    (subst (λ es. Follows (n + 2) next.round (inserted_in_rounds (n + 2) (calls_in steps)) es) (sym same) f)
all_ended n steps s next same h stop (inr (same_round, final)) none more =
    let f = more (same_ahead s next (ahead s steps) (ahead next steps) same_round same stop h) in
    let empty : ahead s steps ≡ [] = ap (λ p. p ++ timed_of (read_in steps)) (none_pending s.pending final) ∙ ap (λ es. timed_of es) (none final) in
    follows_end n (n + 2) s.round (inserted_in_rounds (n + 2) (calls_in steps)) (ahead s steps) empty
    (same_follows (n + 2) s next (inserted_in_rounds (n + 2) (calls_in steps)) (ahead s steps) (ahead next steps) same_round same f)

follows : (n : ℕ) (steps : List Step) (s t : InMemoryOrderedRecords) (f g : PerfFile) → TakesSteps steps s f t g → RoundsRise s.pending (read_in steps) → Ahead s (ahead s steps) → Follows n s.round (inserted_in_rounds n (calls_in steps)) (ahead s steps)
follows n [] s t f g taken rise h = follows_none n s.round (ahead s [])
follows n (reads key place r ∷ steps) s t f g (next, (next_file, step, rest)) rise h =
    let same : ahead s (reads key place r ∷ steps) ≡ ahead next steps =
    ap (λ p. pending_timed p ++ (timed_by (time_key_of place) (place, r) ++ timed_of (read_in steps))) step.nothing_pending ∙ ap (λ k. timed_by k (place, r) ++ timed_of (read_in steps)) step.has_time
    ∙ ap (λ p. pending_timed p ++ timed_of (read_in steps)) (sym step.pending) in
    let after = same_ahead s next (ahead s (reads key place r ∷ steps)) (ahead next steps) step.same_order.round same (λ final. absurd (not_final next.pending (Record key place r) step.pending (λ x. x) final)) h in
    same_follows n s next (inserted_in_rounds n (calls_in steps)) (ahead s (reads key place r ∷ steps)) (ahead next steps) step.same_order.round same (follows n steps next t next_file g rest (rise_after (reads key place r) steps s next f next_file step rise) after)
follows n (passes place r ∷ steps) s t f g (next, (next_file, step, rest)) rise h =
    let same : ahead s (passes place r ∷ steps) ≡ ahead next steps =
    ap (λ p. pending_timed p ++ timed_of (read_in steps)) step.0.was_pending ∙ ap (λ p. pending_timed p ++ timed_of (read_in steps)) (sym step.0.pending) in
    let after = same_ahead s next (ahead s (passes place r ∷ steps)) (ahead next steps) step.0.same_order.round same (λ final. absurd (not_final next.pending Nothing step.0.pending (λ x. x) final)) h in
    same_follows n s next (inserted_in_rounds n (calls_in steps)) (ahead s (passes place r ∷ steps)) (ahead next steps) step.0.same_order.round same (follows n steps next t next_file g rest (rise_after (passes place r) steps s next f next_file step rise) after)
follows n (reads_end ∷ steps) s t f g (next, (next_file, step, rest)) rise h =
    let same : ahead s (reads_end ∷ steps) ≡ ahead next steps =
    ap (λ p. pending_timed p ++ timed_of (read_in steps)) step.nothing_pending ∙ ap (λ p. pending_timed p ++ timed_of (read_in steps)) (sym step.pending) in
    let after = same_ahead s next (ahead s (reads_end ∷ steps)) (ahead next steps) step.same_order.round same (λ final running. ended_runs next.records.records.stage step.ended.stage_ended running) h in
    same_follows n s next (inserted_in_rounds n (calls_in steps)) (ahead s (reads_end ∷ steps)) (ahead next steps) step.same_order.round same (follows n steps next t next_file g rest (rise_after reads_end steps s next f next_file step rise) after)
follows n (reads_error e ∷ steps) s t f g (next, (next_file, step, rest)) rise h =
    let same : ahead s (reads_error e ∷ steps) ≡ ahead next steps =
    ap (λ p. pending_timed p ++ timed_of (read_in steps)) step.nothing_pending ∙ ap (λ p. pending_timed p ++ timed_of (read_in steps)) (sym step.pending) in
    let after = same_ahead s next (ahead s (reads_error e ∷ steps)) (ahead next steps) step.same_order.round same (λ final running. failed_runs next.records.records.stage step.failed.stage_failed running) h in
    same_follows n s next (inserted_in_rounds n (calls_in steps)) (ahead s (reads_error e ∷ steps)) (ahead next steps) step.same_order.round same (follows n steps next t next_file g rest (rise_after (reads_error e) steps s next f next_file step rise) after)
follows n (sorts (inserts key entry) ∷ steps) s t f g (next, (next_file, step, rest)) rise h =
    let more : ahead s (sorts (inserts key entry) ∷ steps) ≡ (entry.0.round, (key, entry)) ∷ timed_of (read_in steps) = ap (λ p. pending_timed p ++ timed_of (read_in steps)) step.0.was_pending in
    let left : ahead next steps ≡ timed_of (read_in steps) = ap (λ p. pending_timed p ++ timed_of (read_in steps)) step.0.pending in
    let here = same_ahead s s (ahead s (sorts (inserts key entry) ∷ steps)) ((entry.0.round, (key, entry)) ∷ timed_of (read_in steps)) refl more h.stopped h in
    let after : Ahead next (timed_of (read_in steps)) = record {
      from_round = subst (λ k. All (λ y. k ≤ y.0) (timed_of (read_in steps))) (sym step.0.round) (All-tail (λ y. s.round ≤ y.0) (entry.0.round, (key, entry)) (timed_of (read_in steps)) here.from_round);
      rule = here.rule.1;
      stopped = λ final. absurd (not_final next.pending Nothing step.0.pending (λ x. x) final);
    } in
    let tail = follows n steps next t next_file g rest (rise_after (sorts (inserts key entry)) steps s next f next_file step rise) (same_ahead next next (timed_of (read_in steps)) (ahead next steps) refl (sym left) after.stopped after) in
    let tail' = same_follows n s next (inserted_in_rounds n (calls_in steps)) (timed_of (read_in steps)) (ahead next steps) step.0.round (sym left) tail in
    subst (λ es. Follows n s.round ((n, (key, entry)) ∷ inserted_in_rounds n (calls_in steps)) es) (sym more)
    (follows_insert n s.round key entry (inserted_in_rounds n (calls_in steps)) (timed_of (read_in steps)) step.0.in_round here.rule.0 tail')
follows n (sorts ends_round ∷ steps) s t f g (next, (next_file, step, rest)) rise h =
    let same : ahead s (sorts ends_round ∷ steps) ≡ ahead next steps = ap (λ p. pending_timed p ++ timed_of (read_in steps)) (sym step.0.pending) in
    let ended = one_round s.pending (read_in steps) s.round next.round step.0.round rise in
    let after : Ahead next (ahead s steps) = record { from_round = ended.1; rule = h.rule; stopped = kept_stop s next step.0.pending step.0.same_records h.stopped } in
    let later = follows (n + 1) steps next t next_file g rest (rise_after (sorts ends_round) steps s next f next_file step rise) (same_ahead next next (ahead s steps) (ahead next steps) refl same after.stopped after) in
    let later' = subst (λ k. Follows (n + 1) k (inserted_in_rounds (n + 1) (calls_in steps)) (ahead s steps)) ended.0 (subst (λ es. Follows (n + 1) next.round (inserted_in_rounds (n + 1) (calls_in steps)) es) (sym same) later) in
    follows_round n s.round (inserted_in_rounds (n + 1) (calls_in steps)) (ahead s steps) (subst (λ k. All (λ y. k ≤ y.0) (ahead s steps)) ended.0 ended.1) later'
follows n (sorts ends_all ∷ steps) s t f g (next, (next_file, step, rest)) rise h =
    let same : ahead s (sorts ends_all ∷ steps) ≡ ahead next steps = ap (λ p. pending_timed p ++ timed_of (read_in steps)) (sym step.0.pending) in
    let stop = kept_stop s next step.0.pending step.0.same_records h.stopped in
    all_ended n steps s next same h stop (later_rounds s.pending (read_in steps) s.round next.round step.0.round rise)
    (λ final. nothing_read steps next t next_file g (still_stopped s next step.0.same_records (h.stopped final)) rest) (λ after. follows (n + 2) steps next t next_file g rest (rise_after (sorts ends_all) steps s next f next_file step rise) after)
follows n (sorts releases ∷ steps) s t f g (next, (next_file, step, rest)) rise h = absurd step.0
follows n (sorts (returns key entry) ∷ steps) s t f g (next, (next_file, step, rest)) rise h =
    let same : ahead s (sorts (returns key entry) ∷ steps) ≡ ahead next steps = ap (λ p. pending_timed p ++ timed_of (read_in steps)) (sym step.0.pending) in
    let after = same_ahead s next (ahead s steps) (ahead next steps) step.0.round same (kept_stop s next step.0.pending step.0.same_records h.stopped) h in
    same_follows n s next (inserted_in_rounds n (calls_in steps)) (ahead s steps) (ahead next steps) step.0.round same (follows n steps next t next_file g rest (rise_after (sorts (returns key entry)) steps s next f next_file step rise) after)
follows n (sorts keeps ∷ steps) s t f g (next, (next_file, step, rest)) rise h =
    let same : ahead s (sorts keeps ∷ steps) ≡ ahead next steps = ap (λ p. pending_timed p ++ timed_of (read_in steps)) (sym step.0.pending) in
    let after = same_ahead s next (ahead s steps) (ahead next steps) step.0.round same (kept_stop s next step.0.pending step.0.same_records h.stopped) h in
    same_follows n s next (inserted_in_rounds n (calls_in steps)) (ahead s steps) (ahead next steps) step.0.round same (follows n steps next t next_file g rest (rise_after (sorts keeps) steps s next f next_file step rise) after)
follows n (reports e ∷ steps) s t f g (next, (next_file, step, rest)) rise h =
    let same : ahead s (reports e ∷ steps) ≡ ahead next steps =
    ap (λ p. pending_timed p ++ timed_of (read_in steps)) step.0.was_pending ∙ ap (λ p. pending_timed p ++ timed_of (read_in steps)) (sym step.0.pending) in
    let after = same_ahead s next (ahead s steps) (ahead next steps) step.0.same_order.round same (λ final. absurd (not_final next.pending Nothing step.0.pending (λ x. x) final)) h in
    same_follows n s next (inserted_in_rounds n (calls_in steps)) (ahead s steps) (ahead next steps) step.0.same_order.round same (follows n steps next t next_file g rest (rise_after (reports e) steps s next f next_file step rise) after)

pub times_ascend_under_perf_rule : OffsetsIncrease → TimesAscendUnderPerfRule
times_ascend_under_perf_rule increase records first last file file' steps new taken layout rule =
    let timed = timed_of (read_in steps) in
    let none : ahead first steps ≡ timed = ap (λ p. pending_timed p ++ timed) new.pending in
    let all : All (λ y. 0 ≤ y.0) timed = λ i d lt. omega arith in
    let start : Ahead first timed = record {
      from_round = subst (λ k. All (λ y. k ≤ y.0) timed) (sym new.round) all;
      rule = rule;
      stopped = λ final. absurd (not_final first.pending Nothing new.pending (λ x. x) final);
    } in
    times_ascend_under_rule records first last file file' steps new taken
    (follows 0 steps first last file file' taken (subst (λ q. RoundsRise q (read_in steps)) (sym new.pending) (rounds_follow increase (views (read_in steps)) layout)) (same_ahead first first timed (ahead first steps) refl (sym none) start.stopped start)).rule
