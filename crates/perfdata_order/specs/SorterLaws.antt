-- Laws of the calls of a sorter, from a new one on.
use Rattle.std.specs.Prelude.{◌≡◌, ℕ, ◌+◌, ◌-◌, ◌≤◌, max, List, [], ◌∷◌, ◌++◌, map, filter, All}
use Rattle.std.specs.declared.cmp.Ordering.{Ordering}
use Rattle.std.specs.Ordering.{is_lt}
use Rattle.std.specs.List.Sorted.{IsPermutation, ties}
use Rattle.perfdata_order.specs.declared.sorter.Sorter.{Sorter}
use Rattle.perfdata_order.specs.Order.{IsAtMost, Ascends}
use Rattle.perfdata_order.specs.Sorter.{held_of, slots_in, slots_for, IsNew, IsUnchanged, Returned, Inserted, RoundEnded, AllRoundsEnded, HalfReleased}

-- The effect of a call. `keeps` is a call that failed, or that found no value available.
pub data Call (K V : Type 0) : Type 0 where
  inserts : K → V → Call K V
  ends_round : Call K V
  ends_all : Call K V
  releases : Call K V
  returns : K → V → Call K V
  keeps : Call K V

module _ {K V : Type 0} where
  -- The inserted entries, in the order of the calls.
  abbrev pub inserted_by : List (Call K V) → List (K × V)
  inserted_by [] = []
  inserted_by (inserts k v ∷ calls) = (k, v) ∷ inserted_by calls
  inserted_by (ends_round ∷ calls) = inserted_by calls
  inserted_by (ends_all ∷ calls) = inserted_by calls
  inserted_by (releases ∷ calls) = inserted_by calls
  inserted_by (returns k v ∷ calls) = inserted_by calls
  inserted_by (keeps ∷ calls) = inserted_by calls

  -- The returned entries, in the order of the calls.
  abbrev pub returned_by : List (Call K V) → List (K × V)
  returned_by [] = []
  returned_by (inserts k v ∷ calls) = returned_by calls
  returned_by (ends_round ∷ calls) = returned_by calls
  returned_by (ends_all ∷ calls) = returned_by calls
  returned_by (releases ∷ calls) = returned_by calls
  returned_by (returns k v ∷ calls) = (k, v) ∷ returned_by calls
  returned_by (keeps ∷ calls) = returned_by calls

  -- The inserted entries with the number of rounds that ended before each, from the given number on. The end of all rounds
  -- counts as two.
  abbrev pub inserted_in_rounds : ℕ → List (Call K V) → List (ℕ × (K × V))
  inserted_in_rounds n [] = []
  inserted_in_rounds n (inserts k v ∷ calls) = (n, (k, v)) ∷ inserted_in_rounds n calls
  inserted_in_rounds n (ends_round ∷ calls) = inserted_in_rounds (n + 1) calls
  inserted_in_rounds n (ends_all ∷ calls) = inserted_in_rounds (n + 2) calls
  inserted_in_rounds n (releases ∷ calls) = inserted_in_rounds n calls
  inserted_in_rounds n (returns k v ∷ calls) = inserted_in_rounds n calls
  inserted_in_rounds n (keeps ∷ calls) = inserted_in_rounds n calls

  -- How often values were released before their rounds ended.
  abbrev pub releases_in : List (Call K V) → ℕ
  releases_in [] = 0
  releases_in (inserts k v ∷ calls) = releases_in calls
  releases_in (ends_round ∷ calls) = releases_in calls
  releases_in (ends_all ∷ calls) = releases_in calls
  releases_in (releases ∷ calls) = 1 + releases_in calls
  releases_in (returns k v ∷ calls) = releases_in calls
  releases_in (keeps ∷ calls) = releases_in calls

  -- The most entries that the sorter contains at once, if it contains this many at first.
  abbrev pub most_held : ℕ → List (Call K V) → ℕ
  most_held held [] = held
  most_held held (inserts k v ∷ calls) = max held (most_held (held + 1) calls)
  most_held held (ends_round ∷ calls) = most_held held calls
  most_held held (ends_all ∷ calls) = most_held held calls
  most_held held (releases ∷ calls) = most_held held calls
  most_held held (returns k v ∷ calls) = max held (most_held (held - 1) calls)
  most_held held (keeps ∷ calls) = most_held held calls

  -- Consecutive calls that return these entries.
  abbrev pub returns_each : List (K × V) → List (Call K V)
  returns_each entries = map (λ (e : K × V). returns e.0 e.1) entries

  module _ (cmp : K → K → Ordering) where
    abbrev pub MakesCall : Call K V → Sorter K V → Sorter K V → Type 0
    MakesCall (inserts k v) old new = Inserted cmp old k v new
    MakesCall ends_round old new = RoundEnded cmp old new
    MakesCall ends_all old new = AllRoundsEnded cmp old new
    MakesCall releases old new = HalfReleased cmp old new
    MakesCall (returns k v) old new = Returned old k v new
    MakesCall keeps old new = IsUnchanged old new

    -- Consecutive calls led from one state to the other.
    abbrev pub MakesCalls : List (Call K V) → Sorter K V → Sorter K V → Type 0
    MakesCalls [] old new = new ≡ old
    MakesCalls (call ∷ calls) old new = (next : Sorter K V) × MakesCall call old next × MakesCalls calls next new

    -- No entry of round m is smaller than one of round n if n + 2 ≤ m.
    abbrev pub KeepsRoundRule : List (ℕ × (K × V)) → Type 0
    KeepsRoundRule [] = Unit {0}
    KeepsRoundRule (e ∷ es) = All (λ later. e.0 + 2 ≤ later.0 → IsAtMost cmp e.1 later.1) es × KeepsRoundRule es

-- Each inserted entry is returned once, or is still in the sorter.
abbrev pub ReturnsEachOnce : {K : Type 0} (V : Type 0) → (K → K → Ordering) → Type 0
ReturnsEachOnce {K} V cmp = (first last : Sorter K V) (calls : List (Call K V)) → IsNew first → MakesCalls cmp calls first last →
    IsPermutation (inserted_by calls) (returned_by calls ++ held_of last)

-- Entries whose keys are equal are returned in the order in which they were inserted.
abbrev pub KeepsInsertionOrder : {K : Type 0} (V : Type 0) → (K → K → Ordering) → Type 0
KeepsInsertionOrder {K} V cmp = (first last : Sorter K V) (calls : List (Call K V)) → IsNew first → MakesCalls cmp calls first last → (e : K × V) →
    filter (ties (λ (a b : K × V). is_lt (cmp a.0 b.0)) e) (returned_by calls ++ held_of last)
    ≡ filter (ties (λ (a b : K × V). is_lt (cmp a.0 b.0)) e) (inserted_by calls)

-- What is returned without another call between ascends.
abbrev pub RunsAscend : {K : Type 0} (V : Type 0) → (K → K → Ordering) → Type 0
RunsAscend {K} V cmp = (first middle last : Sorter K V) (calls : List (Call K V)) (run : List (K × V)) → IsNew first → MakesCalls cmp calls first middle →
    MakesCalls cmp (returns_each run) middle last → Ascends cmp run

-- Everything that is returned ascends if the inserted entries keep the rule, and no value was released before its round ended.
abbrev pub AscendsUnderRule : {K : Type 0} (V : Type 0) → (K → K → Ordering) → Type 0
AscendsUnderRule {K} V cmp = (first last : Sorter K V) (calls : List (Call K V)) → IsNew first → MakesCalls cmp calls first last →
    releases_in calls ≡ 0 → KeepsRoundRule cmp (inserted_in_rounds 0 calls) → Ascends cmp (returned_by calls)

-- The number of slots is at most that of the most entries held at once, a third more, and one.
abbrev pub HasFewSlots : {K : Type 0} (V : Type 0) → (K → K → Ordering) → Type 0
HasFewSlots {K} V cmp = (first last : Sorter K V) (calls : List (Call K V)) → IsNew first → MakesCalls cmp calls first last →
    slots_in last ≤ slots_for (most_held 0 calls)
