-- The rounds of the records of a layout don't fall.
use Rattle.std.proofs.Common.{suc, ◌≤◌, List, [], ◌∷◌, ◌++◌, All, sym, subst, arith}
use Rattle.std.specs.List.{AllPairs}
use Rattle.std.proofs.lemmas.List.Elements.{All-nil, All-cons, All-head, All-tail, All-weaker}
use Rattle.linux_perf_data.specs.Layout.{IsRecord, IsValidRecord, RecordView}
use Rattle.linux_perf_data.specs.Laws.{FollowsRecord, OffsetsIncrease}
use Rattle.perfdata_order.specs.LayoutRecords.{AreLayoutRecords}

-- No record is of an earlier round than one before it.
abbrev pub RoundsFollow : List RecordView → Type 0
RoundsFollow [] = Unit {0}
RoundsFollow (h ∷ hs) = All (λ later. h.round ≤ later.round) hs × RoundsFollow hs

first_follows : (h : RecordView) (hs : List RecordView) → AllPairs FollowsRecord (h ∷ hs) → All (λ later. h.round ≤ later.round) hs
first_follows h hs pairs i d lt = (pairs 0 (suc i) d (omega arith) (omega (arith, lt))).1

rest_follow : (h : RecordView) (hs : List RecordView) → AllPairs FollowsRecord (h ∷ hs) → AllPairs FollowsRecord hs
rest_follow h hs pairs i j d before lt = pairs (suc i) (suc j) d (omega (arith, before)) (omega (arith, lt))

all_follow : (hs : List RecordView) → AllPairs FollowsRecord hs → RoundsFollow hs
all_follow [] pairs = tt
all_follow (h ∷ hs) pairs = (first_follows h hs pairs, all_follow hs (rest_follow h hs pairs))

first_of : {X : Type 0} (P : X → Type 0) (xs ys : List X) → All P (xs ++ ys) → All P xs
first_of P [] ys all = All-nil P
first_of P (x ∷ xs) ys all = All-cons P x xs (All-head P x (xs ++ ys) all) (first_of P xs ys (All-tail P x (xs ++ ys) all))

first_follow : (hs more : List RecordView) → RoundsFollow (hs ++ more) → RoundsFollow hs
first_follow [] more all = tt
first_follow (h ∷ hs) more all = (first_of (λ later. h.round ≤ later.round) hs more all.0, first_follow hs more all.1)

pub rounds_follow : OffsetsIncrease → (hs : List RecordView) → AreLayoutRecords hs → RoundsFollow hs
rounds_follow increase hs layout =
    let more = layout.first.0 in
    let remaining = layout.first.1.1 in
    let raw = remaining.raw_records in
    let valid = All-weaker (IsValidRecord layout.order layout.bound) (IsRecord layout.order) (λ p v. v.is_record) raw remaining.layout.elements in
    let pairs = (increase layout.order layout.bound layout.offset layout.round layout.attrs raw valid).0 in
    first_follow hs more (all_follow (hs ++ more) (subst (λ xs. AllPairs FollowsRecord xs) (sym remaining.elements) pairs))
