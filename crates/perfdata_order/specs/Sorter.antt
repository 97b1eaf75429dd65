-- A sorter: the entries that are available, those that are not yet, and the greatest keys. What each call does to them.
use Rattle.std.specs.Prelude.{◌≡◌, ℕ, ◌+◌, ◌/◌, ◌<◌, ◌≤◌, max, Bool, true, false, List, [], ◌∷◌, ◌++◌, length, take, drop, Option, None, Some, Result, Ok, Err, All}
use Rattle.std.specs.declared.cmp.Ordering.{Ordering}
use Rattle.std.specs.declared.alloc.AllocFailed.{AllocFailed}
use Rattle.std.specs.declared.alloc.AllocError.{AllocError}
use Rattle.perfdata_order.specs.declared.sorter.Sorter.{Sorter}
use Rattle.perfdata_order.specs.Slots.{value_at, slot_count}
use Rattle.perfdata_order.specs.Order.{is_within, greatest_with, SortsEntries}
use Rattle.perfdata_order.specs.Entries.{entries_by}

-- As many slots as this number of values, a third more, and one.
abbrev pub slots_for : ℕ → ℕ
slots_for values = values + values / 3 + 1

module _ {K V : Type 0} where
  -- All entries that the sorter contains.
  abbrev pub held_of : Sorter K V → List (K × V)
  held_of s = entries_by (value_at s.values) s.order.items

  -- The first of them, which are available.
  abbrev pub available_of : Sorter K V → List (K × V)
  available_of s = entries_by (value_at s.values) (take s.available s.order.items)

  -- The others.
  abbrev pub pending_of : Sorter K V → List (K × V)
  pending_of s = entries_by (value_at s.values) (drop s.available s.order.items)

  -- The greatest key of all rounds that ended.
  abbrev pub limit_of : Sorter K V → Option K
  limit_of s = s.limit

  -- The greatest key of all rounds.
  abbrev pub greatest_of : Sorter K V → Option K
  greatest_of s = s.greatest

  -- The number of slots for values, vacant ones among them.
  abbrev pub slots_in : Sorter K V → ℕ
  slots_in s = slot_count s.values

  -- Slots are added only if too few are vacant for the values that are held, and none is removed.
  pub record AddsFewSlots (old new : Sorter K V) : Type 0 where
    pub kept : slots_in old ≤ slots_in new
    pub few : slots_in new ≤ max (slots_in old) (slots_for (length (held_of old)))

  pub record IsNew (s : Sorter K V) : Type 0 where
    pub empty : held_of s ≡ []
    pub limit : limit_of s ≡ None
    pub greatest : greatest_of s ≡ None
    pub slots : slots_in s ≡ 0

  -- The entries are the same. A failed call may have added a slot.
  pub record IsUnchanged (old new : Sorter K V) : Type 0 where
    pub available : available_of new ≡ available_of old
    pub pending : pending_of new ≡ pending_of old
    pub held : held_of new ≡ held_of old
    pub limit : limit_of new ≡ limit_of old
    pub greatest : greatest_of new ≡ greatest_of old
    pub slots : AddsFewSlots old new

  abbrev pub TestsAvailable : Sorter K V → Bool → Type 0
  TestsAvailable s true = 0 < length (available_of s)
  TestsAvailable s false = available_of s ≡ []

  abbrev pub TestsEmpty : Sorter K V → Bool → Type 0
  TestsEmpty s true = held_of s ≡ []
  TestsEmpty s false = 0 < length (held_of s)

  -- The next available value was returned.
  pub record Returned (old : Sorter K V) (key : K) (value : V) (new : Sorter K V) : Type 0 where
    pub available : available_of old ≡ (key, value) ∷ available_of new
    pub pending : pending_of new ≡ pending_of old
    pub limit : limit_of new ≡ limit_of old
    pub greatest : greatest_of new ≡ greatest_of old
    pub slots : slots_in new ≡ slots_in old

  abbrev pub TakesNext : Sorter K V → Option V → Sorter K V → Type 0
  TakesNext old None new = (available_of old ≡ []) × IsUnchanged old new
  TakesNext old (Some value) new = (key : K) × Returned old key value new

  module _ (cmp : K → K → Ordering) where
    -- The entry is the last of those that are pending.
    pub record Inserted (old : Sorter K V) (key : K) (value : V) (new : Sorter K V) : Type 0 where
      pub available : available_of new ≡ available_of old
      pub pending : pending_of new ≡ pending_of old ++ (key, value) ∷ []
      pub limit : limit_of new ≡ limit_of old
      pub greatest : greatest_of new ≡ Some (greatest_with cmp (greatest_of old) key)
      pub slots : AddsFewSlots old new

    abbrev pub InsertsEntry : Sorter K V → K → V → Result (Unit {0}) (AllocFailed (K × V)) → Sorter K V → Type 0
    InsertsEntry old key value (Ok done) new = Inserted old key value new
    InsertsEntry old key value (Err e) new = (e.value ≡ (key, value)) × IsUnchanged old new

    -- A round ended: the entries within the greatest key of the rounds before it are available.
    pub record RoundEnded (old new : Sorter K V) : Type 0 where
      pub sorts : SortsEntries cmp (held_of old) (held_of new)
      pub available : All (λ e. is_within cmp (limit_of old) e ≡ true) (available_of new)
      pub pending : All (λ e. is_within cmp (limit_of old) e ≡ false) (pending_of new)
      pub limit : limit_of new ≡ greatest_of old
      pub greatest : greatest_of new ≡ greatest_of old
      pub slots : slots_in new ≡ slots_in old

    abbrev pub EndsRound : Sorter K V → Result (Unit {0}) AllocError → Sorter K V → Type 0
    EndsRound old (Ok done) new = RoundEnded old new
    EndsRound old (Err e) new = IsUnchanged old new

    -- All rounds ended: all entries are available.
    pub record AllRoundsEnded (old new : Sorter K V) : Type 0 where
      pub sorts : SortsEntries cmp (held_of old) (held_of new)
      pub pending : pending_of new ≡ []
      pub limit : limit_of new ≡ greatest_of old
      pub greatest : greatest_of new ≡ greatest_of old
      pub slots : slots_in new ≡ slots_in old

    abbrev pub EndsAllRounds : Sorter K V → Result (Unit {0}) AllocError → Sorter K V → Type 0
    EndsAllRounds old (Ok done) new = AllRoundsEnded old new
    EndsAllRounds old (Err e) new = IsUnchanged old new

    -- The first half of the entries is available, though their rounds haven't ended.
    pub record HalfReleased (old new : Sorter K V) : Type 0 where
      pub sorts : SortsEntries cmp (held_of old) (held_of new)
      pub half : (length (pending_of new) + length (pending_of new) ≤ length (held_of old))
          × (length (held_of old) ≤ length (pending_of new) + length (pending_of new) + 1)
      pub limit : limit_of new ≡ limit_of old
      pub greatest : greatest_of new ≡ greatest_of old
      pub slots : slots_in new ≡ slots_in old

    abbrev pub ReleasesHalf : Sorter K V → Result (Unit {0}) AllocError → Sorter K V → Type 0
    ReleasesHalf old (Ok done) new = HalfReleased old new
    ReleasesHalf old (Err e) new = IsUnchanged old new
