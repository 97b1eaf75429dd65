-- The times that are returned ascend where the records of the source keep perf's rule.
use Rattle.std.proofs.Common.{◌≡◌, ℕ, ◌+◌, ◌^◌, ◌<◌, ◌≤◌, min, List, [], ◌∷◌, ◌++◌, get_or, map, All, Option, None, Some, refl, sym, ap, ◌∙◌, subst, inl, inr, arith}
use Rattle.std.specs.Prelude.{◌⊎◌}
use Rattle.std.specs.Ordering.{nat_cmp}
use Rattle.std.specs.Cmp.{nat_cmp_total}
use Rattle.std.proofs.lemmas.List.Elements.{All-nil, All-cons, All-head, All-tail}
use Rattle.perfdata_sources.specs.Source.{State}
use Rattle.linux_perf_data.specs.declared.perf_file.PerfFile.{PerfFile}
use Rattle.linux_perf_data.specs.declared.records.iter.PerfRecordIter.{PerfRecordIter}
use Rattle.linux_perf_data.specs.Layout.{RecordView}
use Rattle.linux_perf_data.specs.Laws.{OffsetsIncrease}
use Rattle.perfdata_order.specs.declared.held_record.HeldRecord.{HeldRecord}
use Rattle.perfdata_order.specs.declared.streaming.OrderedRecords.{OrderedRecords}
use Rattle.perfdata_order.specs.HeldRecord.{held_view}
use Rattle.perfdata_order.specs.Order.{IsAtMost}
use Rattle.perfdata_order.specs.SorterLaws.{inserted_in_rounds, KeepsRoundRule}
use Rattle.perfdata_order.specs.SorterLaws.Call.{inserts, ends_round, ends_all, releases, returns, keeps}
use Rattle.perfdata_order.specs.StreamingOrder.{Unplaced, unplaced_of, after_round, Step, TakesStep, TakesSteps, IsOneRoundLater, IsLaterOrLast, IsNewOrder, ReadsWaiting, ReadsRoundEnd}
use Rattle.perfdata_order.specs.StreamingOrder.Unplaced.{nothing, waiting, round_ending, ending, failing, failed}
use Rattle.perfdata_order.specs.StreamingOrder.Step.{reads, reads_round_end, passes, reads_end, reads_error, sorts, reports}
use Rattle.perfdata_order.specs.StreamingLaws.{read_in, calls_in, unplaced_records, timed_by, timed_of, TimesAscendUnderPerfRule}
use Rattle.perfdata_order.specs.Times.{key_of_time}
use Rattle.perfdata_order.proofs.AscendingRuns.{all_prefix}
use Rattle.perfdata_order.proofs.RoundRule.{ascends_under_rule}
use Rattle.perfdata_order.proofs.StreamingCalls.{IsLast}
use Rattle.perfdata_order.proofs.StreamingSteps.{half_released, nothing_read, calls_sorter_in_turn}
use Rattle.perfdata_order.proofs.StreamingBudget.{counts_early}
use Rattle.perfdata_order.proofs.LayoutRounds.{RoundsFollow, rounds_follow}

abbrev pub Timed : Type 0
Timed = ℕ × (ℕ × RecordView)

timed_later : (round : ℕ) (hs : List RecordView) → All (λ later. round ≤ later.round) hs → All (λ later. round ≤ later.0) (timed_of hs)
timed_later round [] all = All-nil (λ (later : Timed). round ≤ later.0)
timed_later round (h ∷ hs) all =
    let rest = timed_later round hs (All-tail (λ later. round ≤ later.round) h hs all) in
    let here = All-head (λ later. round ≤ later.round) h hs all in
    elim (key_of_time h.timestamp) as (λ k. All (λ later. round ≤ later.0) (timed_by k h ++ timed_of hs)) [
      | None ↦ rest
      | Some time ↦ All-cons (λ later. round ≤ later.0) (h.round, (time, h)) (timed_of hs) here rest
    ]

-- The timed records from the pending one on are of its round or of later ones.
pending_later : (key : Option ℕ) (h : RecordView) (hs : List RecordView) → RoundsFollow (h ∷ hs) → All (λ y. h.round ≤ y.0) (timed_by key h ++ timed_of hs)
pending_later None h hs follow = timed_later h.round hs follow.0
pending_later (Some time) h hs follow = All-cons (λ y. h.round ≤ y.0) (h.round, (time, h)) (timed_of hs) (omega arith) (timed_later h.round hs follow.0)

abbrev Placed : Type 0
Placed = ℕ × (ℕ × HeldRecord)

abbrev pub pending_timed : Unplaced → List Timed
pending_timed nothing = []
pending_timed (waiting key h) = timed_by key h
pending_timed round_ending = []
pending_timed ending = []
pending_timed (failing e) = []
pending_timed failed = []

-- The rounds of the records that are still to be placed don't fall.
abbrev pub RoundsRise : Unplaced → List RecordView → Type 0
RoundsRise q hs = RoundsFollow (unplaced_records q ++ hs)

-- An inserted entry with the round of its record.
abbrev as_timed : Placed → Timed
as_timed y = ((held_view y.1.1).round, (y.1.0, held_view y.1.1))

-- The records of two rounds later are two rounds later in the sorter too.
abbrev IsInRounds : ℕ → ℕ → Placed → Type 0
IsInRounds n round y = (n + 1 ≤ y.0 → round + 1 ≤ (held_view y.1.1).round) × (n + 2 ≤ y.0 → round + 2 ≤ (held_view y.1.1).round)

record Follows (n round : ℕ) (inserted : List Placed) (times : List Timed) : Type 0 where
  rest : List Timed
  prefix : map as_timed inserted ++ rest ≡ times
  bounds : All (IsInRounds n round) inserted
  rule : KeepsRoundRule nat_cmp inserted

from_map : (P : Timed → Type 0) (ys : List Placed) → All P (map as_timed ys) → All (λ y. P (as_timed y)) ys
from_map P [] all = All-nil (λ y. P (as_timed y))
from_map P (y ∷ ys) all = All-cons (λ y. P (as_timed y)) y ys (All-head P (as_timed y) (map as_timed ys) all) (from_map P ys (All-tail P (as_timed y) (map as_timed ys) all))

-- What holds of the timed records also holds of the inserted ones.
transfer : (P : Timed → Type 0) (ys : List Placed) (rest times : List Timed) → map as_timed ys ++ rest ≡ times → All P times → All (λ y. P (as_timed y)) ys
transfer P ys rest times prefix all = from_map P ys (all_prefix P (map as_timed ys) rest (subst (λ es. All P es) (sym prefix) all))

follows_none : (n round : ℕ) (times : List Timed) → Follows n round [] times
follows_none n round times = record { rest = times; prefix = refl; bounds = All-nil (IsInRounds n round); rule = tt }

two_rounds : (n round first : ℕ) (y : Placed) → first ≤ round → (n + 2 ≤ y.0 → round + 2 ≤ (held_view y.1.1).round) → n + 2 ≤ y.0 → first + 2 ≤ (held_view y.1.1).round
two_rounds n round first y in_round bound le = let far = bound le in omega arith

follows_insert : (n round key : ℕ) (held : HeldRecord) (ys : List Placed) (times : List Timed) → (held_view held).round ≤ round → All (λ later. (held_view held).round + 2 ≤ later.0 → IsAtMost nat_cmp (key, held_view held) later.1) times
    → Follows n round ys times → Follows n round ((n, (key, held)) ∷ ys) (((held_view held).round, (key, held_view held)) ∷ times)
follows_insert n round key held ys times in_round all f =
    let known = transfer (λ later. (held_view held).round + 2 ≤ later.0 → IsAtMost nat_cmp (key, held_view held) later.1) ys f.rest times f.prefix all in
    record {
      rest = f.rest;
      prefix = ap (λ es. ((held_view held).round, (key, held_view held)) ∷ es) f.prefix;
      bounds = All-cons (IsInRounds n round) (n, (key, held)) ys (λ le. absurd (omega arith), λ le. absurd (omega arith)) f.bounds;
      rule = (λ i d lt le. known i d lt (two_rounds n round (held_view held).round (get_or ys i d) in_round (f.bounds i d lt).1 le), f.rule);
    }

one_more : (n round : ℕ) (y : Placed) → (n + 1 + 1 ≤ y.0 → round + 1 + 1 ≤ (held_view y.1.1).round) → n + 2 ≤ y.0 → round + 2 ≤ (held_view y.1.1).round
one_more n round y bound le = let far = bound (omega arith) in omega arith

follows_round : (n round : ℕ) (ys : List Placed) (times : List Timed) → All (λ y. round + 1 ≤ y.0) times → Follows (n + 1) (round + 1) ys times → Follows n round ys times
follows_round n round ys times all f =
    let known = transfer (λ y. round + 1 ≤ y.0) ys f.rest times f.prefix all in
    record {
      rest = f.rest;
      prefix = f.prefix;
      bounds = λ i d lt. (λ le. known i d lt, λ le. one_more n round (get_or ys i d) (f.bounds i d lt).0 le);
      rule = f.rule;
    }

follows_rounds : (n round to : ℕ) (ys : List Placed) (times : List Timed) → round + 2 ≤ to → All (λ y. to ≤ y.0) times → Follows (n + 2) to ys times → Follows n round ys times
follows_rounds n round to ys times later all f =
    let known = transfer (λ y. to ≤ y.0) ys f.rest times f.prefix all in
    record {
      rest = f.rest;
      prefix = f.prefix;
      bounds = λ i d lt. let far = known i d lt in (λ le. omega (arith, far, later), λ le. omega (arith, far, later));
      rule = f.rule;
    }

follows_end : (n m round : ℕ) (ys : List Placed) (times : List Timed) → times ≡ [] → Follows m round ys times → Follows n round ys times
follows_end n m round ys times none f =
    let known = transfer (λ y. ⊥) ys f.rest times f.prefix (subst (λ es. All (λ y. ⊥) es) (sym none) (All-nil (λ (y : Timed). ⊥))) in
    record { rest = f.rest; prefix = f.prefix; bounds = λ i d lt. absurd (known i d lt); rule = f.rule }

-- The order's round is at most the source's, and still is after the end of a round that is pending.
abbrev pub FitsSource : Unplaced → ℕ → ℕ → Type 0
FitsSource nothing round source = round ≤ source
FitsSource (waiting key h) round source = (round ≤ source) × (h.round ≤ source)
FitsSource round_ending round source = (round + 1 ≤ source) × (source < 2 ^ 64)
FitsSource ending round source = Unit {0}
FitsSource (failing e) round source = Unit {0}
FitsSource failed round source = Unit {0}

-- The round of the order after its end.
round_follows : (old new source : ℕ) → old + 1 ≤ source → source < 2 ^ 64 → new ≡ min (old + 1) 18446744073709551615 → (new ≡ old + 1) × (new ≤ source)
round_follows old new source behind fits one = (omega (arith, behind, fits, one), omega (arith, behind, fits, one))

all_later : (low high : ℕ) (hs : List RecordView) → low ≤ high → All (λ h. high ≤ h.round) hs → All (λ h. low ≤ h.round) hs
all_later low high hs le all i d lt = (let later = all i d lt in omega (arith, le, later))

-- The end of rounds before the pending record, or of the round whose end is pending. Later records are of the source's round or later.
pub one_round : (q : Unplaced) (after : List RecordView) (old new source : ℕ) → IsOneRoundLater q old new → RoundsRise q after → FitsSource q old source → All (λ h. source ≤ h.round) after
    → (new ≡ old + 1) × All (λ y. new ≤ y.0) (pending_timed q ++ timed_of after)
one_round nothing after old new source one rise fits later = absurd one
one_round round_ending after old new source one rise fits later =
    let follows = round_follows old new source fits.0 fits.1 one in
    (follows.0, timed_later new after (all_later new source after follows.1 later))
one_round (waiting key h) after old new source one rise fits later =
    (one.1 ∙ one.0, subst (λ k. All (λ y. k ≤ y.0) (timed_by key h ++ timed_of after)) (sym one.1) (pending_later key h after rise))
one_round ending after old new source one rise fits later = absurd one
one_round (failing e) after old new source one rise fits later = absurd one
one_round failed after old new source one rise fits later = absurd one

pub later_rounds : (q : Unplaced) (after : List RecordView) (old new : ℕ) → IsLaterOrLast q old new → RoundsRise q after → ((old + 2 ≤ new) × All (λ y. new ≤ y.0) (pending_timed q ++ timed_of after)) ⊎ ((new ≡ old) × IsLast q)
later_rounds nothing after old new later rise = absurd later
later_rounds (waiting key h) after old new later rise =
    inl (subst (λ k. old + 2 ≤ k) (sym later.1) later.0, subst (λ k. All (λ y. k ≤ y.0) (timed_by key h ++ timed_of after)) (sym later.1) (pending_later key h after rise))
later_rounds round_ending after old new later rise = absurd later
later_rounds ending after old new later rise = inr (later, tt)
later_rounds (failing e) after old new later rise = inr (later, tt)
later_rounds failed after old new later rise = inr (later, tt)

none_pending : (q : Unplaced) → IsLast q → pending_timed q ≡ []
none_pending nothing final = absurd final
none_pending (waiting key h) final = absurd final
none_pending round_ending final = absurd final
none_pending ending final = refl
none_pending (failing e) final = refl
none_pending failed final = refl

-- The end of a round leaves the same timed record pending.
pub same_timed_after : (q : Unplaced) → pending_timed (after_round q) ≡ pending_timed q
same_timed_after nothing = refl
same_timed_after (waiting key h) = refl
same_timed_after round_ending = refl
same_timed_after ending = refl
same_timed_after (failing e) = refl
same_timed_after failed = refl

rise_after_round : (q : Unplaced) (hs : List RecordView) → RoundsRise q hs → RoundsRise (after_round q) hs
rise_after_round nothing hs rise = rise
rise_after_round (waiting key h) hs rise = rise
rise_after_round round_ending hs rise = rise
rise_after_round ending hs rise = rise
rise_after_round (failing e) hs rise = rise
rise_after_round failed hs rise = rise

fits_after_round : (q : Unplaced) (old new source : ℕ) → IsOneRoundLater q old new → FitsSource q old source → FitsSource (after_round q) new source
fits_after_round nothing old new source one fits = absurd one
fits_after_round (waiting key h) old new source one fits = (subst (λ n. n ≤ source) (sym one.1) fits.1, fits.1)
fits_after_round round_ending old new source one fits = (round_follows old new source fits.0 fits.1 one).1
fits_after_round ending old new source one fits = absurd one
fits_after_round (failing e) old new source one fits = absurd one
fits_after_round failed old new source one fits = absurd one

fits_after_rounds : (q : Unplaced) (old new source : ℕ) → IsLaterOrLast q old new → FitsSource q old source → FitsSource q new source
fits_after_rounds nothing old new source later fits = absurd later
fits_after_rounds (waiting key h) old new source later fits = (subst (λ n. n ≤ source) (sym later.1) fits.1, fits.1)
fits_after_rounds round_ending old new source later fits = absurd later
fits_after_rounds ending old new source later fits = tt
fits_after_rounds (failing e) old new source later fits = tt
fits_after_rounds failed old new source later fits = tt

module _ {R : Type 0} (state : R → State) where
  -- The rounds of the records to be placed don't fall, and the order's round isn't ahead of the source's.
  abbrev pub RoundsFit : OrderedRecords R → List RecordView → Type 0
  RoundsFit s hs = RoundsRise (unplaced_of s) hs × FitsSource (unplaced_of s) s.round s.records.round

  -- The timed records that are still to be inserted.
  abbrev pub ahead : OrderedRecords R → List Step → List Timed
  ahead s steps = pending_timed (unplaced_of s) ++ timed_of (read_in steps)

  rise_after : (step : Step) (steps : List Step) (s next : OrderedRecords R) (f g : PerfFile) → TakesStep state step s f next g → RoundsRise (unplaced_of s) (read_in (step ∷ steps)) → RoundsRise (unplaced_of next) (read_in steps)
  rise_after (reads key h) steps s next f g taken rise = subst (λ q. RoundsRise q (read_in steps)) (sym taken.pending) (subst (λ q. RoundsRise q (h ∷ read_in steps)) taken.nothing_pending rise)
  rise_after (reads_round_end ended) steps s next f g taken rise = subst (λ q. RoundsRise q (read_in steps)) (sym taken.pending) (subst (λ q. RoundsRise q (read_in steps)) taken.nothing_pending rise)
  rise_after (passes h) steps s next f g taken rise = subst (λ q. RoundsRise q (read_in steps)) (sym taken.0.pending) (subst (λ q. RoundsRise q (read_in steps)) taken.0.was_pending rise).1
  rise_after reads_end steps s next f g taken rise = subst (λ q. RoundsRise q (read_in steps)) (sym taken.pending) (subst (λ q. RoundsRise q (read_in steps)) taken.nothing_pending rise)
  rise_after (reads_error e) steps s next f g taken rise = subst (λ q. RoundsRise q (read_in steps)) (sym taken.pending) (subst (λ q. RoundsRise q (read_in steps)) taken.nothing_pending rise)
  rise_after (sorts (inserts key held)) steps s next f g taken rise = subst (λ q. RoundsRise q (read_in steps)) (sym taken.0.pending) (subst (λ q. RoundsRise q (read_in steps)) taken.0.was_pending rise).1
  rise_after (sorts ends_round) steps s next f g taken rise = subst (λ q. RoundsRise q (read_in steps)) (sym taken.0.pending) (rise_after_round (unplaced_of s) (read_in steps) rise)
  rise_after (sorts ends_all) steps s next f g taken rise = subst (λ q. RoundsRise q (read_in steps)) (sym taken.0.pending) rise
  rise_after (sorts releases) steps s next f g taken rise = subst (λ q. RoundsRise q (read_in steps)) (sym (half_released (unplaced_of s) s next taken.0).1.pending) rise
  rise_after (sorts (returns key held)) steps s next f g taken rise = subst (λ q. RoundsRise q (read_in steps)) (sym taken.0.pending) rise
  rise_after (sorts keeps) steps s next f g taken rise = subst (λ q. RoundsRise q (read_in steps)) (sym taken.0.pending) rise
  rise_after (reports e) steps s next f g taken rise = subst (λ q. RoundsRise q (read_in steps)) (sym taken.0.pending) (subst (λ q. RoundsRise q (read_in steps)) taken.0.was_pending rise)

  -- What is pending, the order's round and the source's are others, but equal ones.
  same_fits : (q : Unplaced) (s t : OrderedRecords R) → unplaced_of t ≡ q → t.round ≡ s.round → t.records ≡ s.records → FitsSource q s.round s.records.round → FitsSource (unplaced_of t) t.round t.records.round
  same_fits q s t is same_round same_records fits =
      subst (λ x. FitsSource x t.round t.records.round) (sym is)
      (subst (λ n. FitsSource q n t.records.round) (sym same_round) (subst (λ r. FitsSource q s.round r.round) (sym same_records) fits))

  -- A record that was read is of the source's round or a later one, which is then the source's.
  fits_read : (s next : OrderedRecords R) (f g : PerfFile) (key : Option ℕ) (h : RecordView) → ReadsWaiting state s f key h next g → s.round ≤ s.records.round → FitsSource (waiting key h) next.round next.records.round
  fits_read s next f g key h taken fits =
      let same = taken.same_order.round in
      let here = taken.returned.returned.record_round in
      let now = taken.returned.returned.round in
      (omega (arith, same, here, now, fits), omega (arith, now))

  -- The end of a round raises the source's round by one.
  fits_read_round_end : (s next : OrderedRecords R) (f g : PerfFile) (ended : ℕ) → ReadsRoundEnd state s f ended next g → s.round ≤ s.records.round → FitsSource round_ending next.round next.records.round
  fits_read_round_end s next f g ended taken fits =
      let same = taken.same_order.round in
      let now = taken.returned.round in
      let bound = next.records.rounds_fit in
      let last = taken.returned.offset_fits in
      (omega (arith, same, now, fits), omega (arith, bound, last))

  fits_after : (step : Step) (s next : OrderedRecords R) (f g : PerfFile) → TakesStep state step s f next g → FitsSource (unplaced_of s) s.round s.records.round → FitsSource (unplaced_of next) next.round next.records.round
  fits_after (reads key h) s next f g taken fits =
      subst (λ q. FitsSource q next.round next.records.round) (sym taken.pending) (fits_read s next f g key h taken (subst (λ q. FitsSource q s.round s.records.round) taken.nothing_pending fits))
  fits_after (reads_round_end ended) s next f g taken fits =
      subst (λ q. FitsSource q next.round next.records.round) (sym taken.pending) (fits_read_round_end s next f g ended taken (subst (λ q. FitsSource q s.round s.records.round) taken.nothing_pending fits))
  fits_after (passes h) s next f g taken fits =
      same_fits nothing s next taken.0.pending taken.0.same_order.round taken.0.same_records (subst (λ q. FitsSource q s.round s.records.round) taken.0.was_pending fits).0
  fits_after reads_end s next f g taken fits = subst (λ q. FitsSource q next.round next.records.round) (sym taken.pending) tt
  fits_after (reads_error e) s next f g taken fits = subst (λ q. FitsSource q next.round next.records.round) (sym taken.pending) tt
  fits_after (sorts (inserts key held)) s next f g taken fits =
      same_fits nothing s next taken.0.pending taken.0.round taken.0.same_records (subst (λ q. FitsSource q s.round s.records.round) taken.0.was_pending fits).0
  fits_after (sorts ends_round) s next f g taken fits =
      subst (λ q. FitsSource q next.round next.records.round) (sym taken.0.pending)
      (subst (λ r. FitsSource (after_round (unplaced_of s)) next.round r.round) (sym taken.0.same_records) (fits_after_round (unplaced_of s) s.round next.round s.records.round taken.0.round fits))
  fits_after (sorts ends_all) s next f g taken fits =
      subst (λ q. FitsSource q next.round next.records.round) (sym taken.0.pending)
      (subst (λ r. FitsSource (unplaced_of s) next.round r.round) (sym taken.0.same_records) (fits_after_rounds (unplaced_of s) s.round next.round s.records.round taken.0.round fits))
  fits_after (sorts releases) s next f g taken fits =
      let early = (half_released (unplaced_of s) s next taken.0).1 in
      same_fits (unplaced_of s) s next early.pending early.round early.same_records fits
  fits_after (sorts (returns key held)) s next f g taken fits = same_fits (unplaced_of s) s next taken.0.pending taken.0.round taken.0.same_records fits
  fits_after (sorts keeps) s next f g taken fits = same_fits (unplaced_of s) s next taken.0.pending taken.0.round taken.0.same_records fits
  fits_after (reports e) s next f g taken fits = subst (λ q. FitsSource q next.round next.records.round) (sym taken.0.pending) tt

  pub fit_after : (step : Step) (steps : List Step) (s next : OrderedRecords R) (f g : PerfFile) → TakesStep state step s f next g → RoundsFit s (read_in (step ∷ steps)) → RoundsFit next (read_in steps)
  fit_after step steps s next f g taken fit = (rise_after step steps s next f g taken fit.0, fits_after step s next f g taken fit.1)

  abbrev AreLater : PerfRecordIter R → List RecordView → Type 0
  AreLater records hs = All (λ h. records.round ≤ h.round) hs

  none_later : (records : PerfRecordIter R) (hs : List RecordView) → hs ≡ [] → AreLater records hs
  none_later records hs none = subst (λ xs. AreLater records xs) (sym none) (All-nil (λ h. records.round ≤ h.round))

  same_later : (s next : OrderedRecords R) (hs : List RecordView) → next.records ≡ s.records → AreLater next.records hs → AreLater s.records hs
  same_later s next hs same later = subst (λ r. AreLater r hs) same later

  -- The records that are read are of the source's round or later ones.
  pub read_later : (steps : List Step) (s t : OrderedRecords R) (f g : PerfFile) → TakesSteps state steps s f t g → AreLater s.records (read_in steps)
  read_later [] s t f g taken = none_later s.records [] refl
  read_later (reads key h ∷ steps) s t f g (next, (next_file, step, rest)) =
      let here = step.returned.returned.record_round in
      let now = step.returned.returned.round in
      let later = read_later steps next t next_file g rest in
      All-cons (λ x. s.records.round ≤ x.round) h (read_in steps) (omega (arith, here)) (all_later s.records.round next.records.round (read_in steps) (omega (arith, here, now)) later)
  read_later (reads_round_end ended ∷ steps) s t f g (next, (next_file, step, rest)) =
      let now = step.returned.round in
      all_later s.records.round next.records.round (read_in steps) (omega (arith, now)) (read_later steps next t next_file g rest)
  read_later (passes h ∷ steps) s t f g (next, (next_file, step, rest)) = same_later s next (read_in steps) step.0.same_records (read_later steps next t next_file g rest)
  read_later (reads_end ∷ steps) s t f g (next, (next_file, step, rest)) =
      none_later s.records (read_in steps) (nothing_read state steps next t next_file g (subst (λ q. IsLast q) (sym step.pending) tt) rest)
  read_later (reads_error e ∷ steps) s t f g (next, (next_file, step, rest)) =
      none_later s.records (read_in steps) (nothing_read state steps next t next_file g (subst (λ q. IsLast q) (sym step.pending) tt) rest)
  read_later (sorts (inserts key held) ∷ steps) s t f g (next, (next_file, step, rest)) = same_later s next (read_in steps) step.0.same_records (read_later steps next t next_file g rest)
  read_later (sorts ends_round ∷ steps) s t f g (next, (next_file, step, rest)) = same_later s next (read_in steps) step.0.same_records (read_later steps next t next_file g rest)
  read_later (sorts ends_all ∷ steps) s t f g (next, (next_file, step, rest)) = same_later s next (read_in steps) step.0.same_records (read_later steps next t next_file g rest)
  read_later (sorts releases ∷ steps) s t f g (next, (next_file, step, rest)) =
      same_later s next (read_in steps) (half_released (unplaced_of s) s next step.0).1.same_records (read_later steps next t next_file g rest)
  read_later (sorts (returns key held) ∷ steps) s t f g (next, (next_file, step, rest)) = same_later s next (read_in steps) step.0.same_records (read_later steps next t next_file g rest)
  read_later (sorts keeps ∷ steps) s t f g (next, (next_file, step, rest)) = same_later s next (read_in steps) step.0.same_records (read_later steps next t next_file g rest)
  read_later (reports e ∷ steps) s t f g (next, (next_file, step, rest)) = same_later s next (read_in steps) step.0.same_records (read_later steps next t next_file g rest)

  -- A new order: nothing is pending, and its round is 0.
  pub new_fits : (records : PerfRecordIter R) (budget : ℕ) (s : OrderedRecords R) (hs : List RecordView) → IsNewOrder records budget s → RoundsFollow hs → RoundsFit s hs
  new_fits records budget s hs new follow =
      let zero = new.round in (
        subst (λ q. RoundsRise q hs) (sym new.pending) follow,
        subst (λ q. FitsSource q s.round s.records.round) (sym new.pending) (omega (arith, zero)),
      )

  -- What is known of the records ahead.
  record Ahead (s : OrderedRecords R) (times : List Timed) : Type 0 where
    from_round : All (λ y. s.round ≤ y.0) times
    rule : KeepsRoundRule nat_cmp times

  -- The same records are ahead after the step.
  same_ahead : (s t : OrderedRecords R) (before after : List Timed) → t.round ≡ s.round → before ≡ after → Ahead s before → Ahead t after
  same_ahead s t before after same_round same h = record {
    from_round = subst (λ k. All (λ y. k ≤ y.0) after) (sym same_round) (subst (λ es. All (λ y. s.round ≤ y.0) es) same h.from_round);
    rule = subst (λ es. KeepsRoundRule nat_cmp es) same h.rule;
  }

  same_follows : (n : ℕ) (s t : OrderedRecords R) (ys : List Placed) (before after : List Timed) → t.round ≡ s.round → before ≡ after → Follows n t.round ys after → Follows n s.round ys before
  same_follows n s t ys before after same_round same f = subst (λ k. Follows n k ys before) same_round (subst (λ es. Follows n t.round ys es) (sym same) f)

  all_ended : (n : ℕ) (steps : List Step) (s next : OrderedRecords R) → ahead s steps ≡ ahead next steps → Ahead s (ahead s steps)
      → ((s.round + 2 ≤ next.round) × All (λ y. next.round ≤ y.0) (ahead s steps)) ⊎ ((next.round ≡ s.round) × IsLast (unplaced_of s)) → (IsLast (unplaced_of s) → read_in steps ≡ [])
      → (Ahead next (ahead next steps) → Follows (n + 2) next.round (inserted_in_rounds (n + 2) (calls_in steps)) (ahead next steps)) → Follows n s.round (inserted_in_rounds (n + 2) (calls_in steps)) (ahead s steps)
  all_ended n steps s next same given (inl (later, all)) none more =
      let after : Ahead next (ahead s steps) = record { from_round = all; rule = given.rule } in
      let f = more (same_ahead next next (ahead s steps) (ahead next steps) refl same after) in
      follows_rounds n s.round next.round (inserted_in_rounds (n + 2) (calls_in steps)) (ahead s steps) later all
      (subst (λ es. Follows (n + 2) next.round (inserted_in_rounds (n + 2) (calls_in steps)) es) (sym same) f)
  all_ended n steps s next same given (inr (same_round, final)) none more =
      let f = more (same_ahead s next (ahead s steps) (ahead next steps) same_round same given) in
      let empty : ahead s steps ≡ [] = ap (λ p. p ++ timed_of (read_in steps)) (none_pending (unplaced_of s) final) ∙ ap (λ es. timed_of es) (none final) in
      follows_end n (n + 2) s.round (inserted_in_rounds (n + 2) (calls_in steps)) (ahead s steps) empty
      (same_follows (n + 2) s next (inserted_in_rounds (n + 2) (calls_in steps)) (ahead s steps) (ahead next steps) same_round same f)

  -- The end of a round leaves the same records ahead.
  pub after_one_round : (s next : OrderedRecords R) (steps : List Step) → unplaced_of next ≡ after_round (unplaced_of s) → ahead s steps ≡ ahead next steps
  after_one_round s next steps pending =
      ap (λ ts. ts ++ timed_of (read_in steps)) (sym (same_timed_after (unplaced_of s))) ∙ ap (λ p. pending_timed p ++ timed_of (read_in steps)) (sym pending)

  follows : (n : ℕ) (steps : List Step) (s t : OrderedRecords R) (f g : PerfFile) → TakesSteps state steps s f t g → RoundsFit s (read_in steps) → Ahead s (ahead s steps) → Follows n s.round (inserted_in_rounds n (calls_in steps)) (ahead s steps)
  follows n [] s t f g taken fit given = follows_none n s.round (ahead s [])
  follows n (reads key h ∷ steps) s t f g (next, (next_file, step, rest)) fit given =
      let same : ahead s (reads key h ∷ steps) ≡ ahead next steps =
      ap (λ p. pending_timed p ++ (timed_by (key_of_time h.timestamp) h ++ timed_of (read_in steps))) step.nothing_pending ∙ ap (λ k. timed_by k h ++ timed_of (read_in steps)) step.has_time
      ∙ ap (λ p. pending_timed p ++ timed_of (read_in steps)) (sym step.pending) in
      let after = same_ahead s next (ahead s (reads key h ∷ steps)) (ahead next steps) step.same_order.round same given in
      same_follows n s next (inserted_in_rounds n (calls_in steps)) (ahead s (reads key h ∷ steps)) (ahead next steps) step.same_order.round same (follows n steps next t next_file g rest (fit_after (reads key h) steps s next f next_file step fit) after)
  follows n (reads_round_end ended ∷ steps) s t f g (next, (next_file, step, rest)) fit given =
      let same : ahead s (reads_round_end ended ∷ steps) ≡ ahead next steps =
      ap (λ p. pending_timed p ++ timed_of (read_in steps)) step.nothing_pending ∙ ap (λ p. pending_timed p ++ timed_of (read_in steps)) (sym step.pending) in
      let after = same_ahead s next (ahead s (reads_round_end ended ∷ steps)) (ahead next steps) step.same_order.round same given in
      same_follows n s next (inserted_in_rounds n (calls_in steps)) (ahead s (reads_round_end ended ∷ steps)) (ahead next steps) step.same_order.round same (follows n steps next t next_file g rest (fit_after (reads_round_end ended) steps s next f next_file step fit) after)
  follows n (passes h ∷ steps) s t f g (next, (next_file, step, rest)) fit given =
      let same : ahead s (passes h ∷ steps) ≡ ahead next steps =
      ap (λ p. pending_timed p ++ timed_of (read_in steps)) step.0.was_pending ∙ ap (λ p. pending_timed p ++ timed_of (read_in steps)) (sym step.0.pending) in
      let after = same_ahead s next (ahead s (passes h ∷ steps)) (ahead next steps) step.0.same_order.round same given in
      same_follows n s next (inserted_in_rounds n (calls_in steps)) (ahead s (passes h ∷ steps)) (ahead next steps) step.0.same_order.round same (follows n steps next t next_file g rest (fit_after (passes h) steps s next f next_file step fit) after)
  follows n (reads_end ∷ steps) s t f g (next, (next_file, step, rest)) fit given =
      let same : ahead s (reads_end ∷ steps) ≡ ahead next steps =
      ap (λ p. pending_timed p ++ timed_of (read_in steps)) step.nothing_pending ∙ ap (λ p. pending_timed p ++ timed_of (read_in steps)) (sym step.pending) in
      let after = same_ahead s next (ahead s (reads_end ∷ steps)) (ahead next steps) step.same_order.round same given in
      same_follows n s next (inserted_in_rounds n (calls_in steps)) (ahead s (reads_end ∷ steps)) (ahead next steps) step.same_order.round same (follows n steps next t next_file g rest (fit_after reads_end steps s next f next_file step fit) after)
  follows n (reads_error e ∷ steps) s t f g (next, (next_file, step, rest)) fit given =
      let same : ahead s (reads_error e ∷ steps) ≡ ahead next steps =
      ap (λ p. pending_timed p ++ timed_of (read_in steps)) step.nothing_pending ∙ ap (λ p. pending_timed p ++ timed_of (read_in steps)) (sym step.pending) in
      let after = same_ahead s next (ahead s (reads_error e ∷ steps)) (ahead next steps) step.same_order.round same given in
      same_follows n s next (inserted_in_rounds n (calls_in steps)) (ahead s (reads_error e ∷ steps)) (ahead next steps) step.same_order.round same (follows n steps next t next_file g rest (fit_after (reads_error e) steps s next f next_file step fit) after)
  follows n (sorts (inserts key held) ∷ steps) s t f g (next, (next_file, step, rest)) fit given =
      let more : ahead s (sorts (inserts key held) ∷ steps) ≡ ((held_view held).round, (key, held_view held)) ∷ timed_of (read_in steps) = ap (λ p. pending_timed p ++ timed_of (read_in steps)) step.0.was_pending in
      let left : ahead next steps ≡ timed_of (read_in steps) = ap (λ p. pending_timed p ++ timed_of (read_in steps)) step.0.pending in
      let here = same_ahead s s (ahead s (sorts (inserts key held) ∷ steps)) (((held_view held).round, (key, held_view held)) ∷ timed_of (read_in steps)) refl more given in
      let after : Ahead next (timed_of (read_in steps)) = record {
        from_round = subst (λ k. All (λ y. k ≤ y.0) (timed_of (read_in steps))) (sym step.0.round) (All-tail (λ y. s.round ≤ y.0) ((held_view held).round, (key, held_view held)) (timed_of (read_in steps)) here.from_round);
        rule = here.rule.1;
      } in
      let tail = follows n steps next t next_file g rest (fit_after (sorts (inserts key held)) steps s next f next_file step fit) (same_ahead next next (timed_of (read_in steps)) (ahead next steps) refl (sym left) after) in
      let tail' = same_follows n s next (inserted_in_rounds n (calls_in steps)) (timed_of (read_in steps)) (ahead next steps) step.0.round (sym left) tail in
      subst (λ es. Follows n s.round ((n, (key, held)) ∷ inserted_in_rounds n (calls_in steps)) es) (sym more)
      (follows_insert n s.round key held (inserted_in_rounds n (calls_in steps)) (timed_of (read_in steps)) step.0.in_round here.rule.0 tail')
  follows n (sorts ends_round ∷ steps) s t f g (next, (next_file, step, rest)) fit given =
      let same : ahead s (sorts ends_round ∷ steps) ≡ ahead next steps = after_one_round s next steps step.0.pending in
      let ended = one_round (unplaced_of s) (read_in steps) s.round next.round s.records.round step.0.round fit.0 fit.1 (read_later (sorts ends_round ∷ steps) s t f g (next, (next_file, step, rest))) in
      let after : Ahead next (ahead s steps) = record { from_round = ended.1; rule = given.rule } in
      let later = follows (n + 1) steps next t next_file g rest (fit_after (sorts ends_round) steps s next f next_file step fit) (same_ahead next next (ahead s steps) (ahead next steps) refl same after) in
      let later' = subst (λ k. Follows (n + 1) k (inserted_in_rounds (n + 1) (calls_in steps)) (ahead s steps)) ended.0 (subst (λ es. Follows (n + 1) next.round (inserted_in_rounds (n + 1) (calls_in steps)) es) (sym same) later) in
      follows_round n s.round (inserted_in_rounds (n + 1) (calls_in steps)) (ahead s steps) (subst (λ k. All (λ y. k ≤ y.0) (ahead s steps)) ended.0 ended.1) later'
  follows n (sorts ends_all ∷ steps) s t f g (next, (next_file, step, rest)) fit given =
      let same : ahead s (sorts ends_all ∷ steps) ≡ ahead next steps = ap (λ p. pending_timed p ++ timed_of (read_in steps)) (sym step.0.pending) in
      all_ended n steps s next same given (later_rounds (unplaced_of s) (read_in steps) s.round next.round step.0.round fit.0)
      (λ final. nothing_read state steps next t next_file g (subst (λ q. IsLast q) (sym step.0.pending) final) rest) (λ after. follows (n + 2) steps next t next_file g rest (fit_after (sorts ends_all) steps s next f next_file step fit) after)
  follows n (sorts releases ∷ steps) s t f g (next, (next_file, step, rest)) fit given =
      let early = (half_released (unplaced_of s) s next step.0).1 in
      let same : ahead s (sorts releases ∷ steps) ≡ ahead next steps = ap (λ p. pending_timed p ++ timed_of (read_in steps)) (sym early.pending) in
      let after = same_ahead s next (ahead s steps) (ahead next steps) early.round same given in
      same_follows n s next (inserted_in_rounds n (calls_in steps)) (ahead s steps) (ahead next steps) early.round same (follows n steps next t next_file g rest (fit_after (sorts releases) steps s next f next_file step fit) after)
  follows n (sorts (returns key held) ∷ steps) s t f g (next, (next_file, step, rest)) fit given =
      let same : ahead s (sorts (returns key held) ∷ steps) ≡ ahead next steps = ap (λ p. pending_timed p ++ timed_of (read_in steps)) (sym step.0.pending) in
      let after = same_ahead s next (ahead s steps) (ahead next steps) step.0.round same given in
      same_follows n s next (inserted_in_rounds n (calls_in steps)) (ahead s steps) (ahead next steps) step.0.round same (follows n steps next t next_file g rest (fit_after (sorts (returns key held)) steps s next f next_file step fit) after)
  follows n (sorts keeps ∷ steps) s t f g (next, (next_file, step, rest)) fit given =
      let same : ahead s (sorts keeps ∷ steps) ≡ ahead next steps = ap (λ p. pending_timed p ++ timed_of (read_in steps)) (sym step.0.pending) in
      let after = same_ahead s next (ahead s steps) (ahead next steps) step.0.round same given in
      same_follows n s next (inserted_in_rounds n (calls_in steps)) (ahead s steps) (ahead next steps) step.0.round same (follows n steps next t next_file g rest (fit_after (sorts keeps) steps s next f next_file step fit) after)
  follows n (reports e ∷ steps) s t f g (next, (next_file, step, rest)) fit given =
      let same : ahead s (reports e ∷ steps) ≡ ahead next steps =
      ap (λ p. pending_timed p ++ timed_of (read_in steps)) step.0.was_pending ∙ ap (λ p. pending_timed p ++ timed_of (read_in steps)) (sym step.0.pending) in
      let after = same_ahead s next (ahead s steps) (ahead next steps) step.0.same_order.round same given in
      same_follows n s next (inserted_in_rounds n (calls_in steps)) (ahead s steps) (ahead next steps) step.0.same_order.round same (follows n steps next t next_file g rest (fit_after (reports e) steps s next f next_file step fit) after)

  pub times_ascend_under_perf_rule : OffsetsIncrease → TimesAscendUnderPerfRule state
  times_ascend_under_perf_rule increase records budget first last file file' steps new taken none_early layout rule =
      let times = timed_of (read_in steps) in
      let none : ahead first steps ≡ times = ap (λ p. pending_timed p ++ times) new.pending in
      let all : All (λ y. 0 ≤ y.0) times = λ i d lt. omega arith in
      let start : Ahead first times = record {
        from_round = subst (λ k. All (λ y. k ≤ y.0) times) (sym new.round) all;
        rule = rule;
      } in
      ascends_under_rule HeldRecord nat_cmp_total first.held.sorter last.held.sorter (calls_in steps) new.empty (calls_sorter_in_turn state first last file file' steps taken)
      (let counted = counts_early state records budget first last file file' steps new taken in omega (arith, counted, none_early))
      (follows 0 steps first last file file' taken (new_fits records budget first (read_in steps) new (rounds_follow increase (read_in steps) layout)) (same_ahead first first times (ahead first steps) refl (sym none) start)).rule
