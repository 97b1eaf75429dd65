-- Steps of private functions: values in numbered slots.
use Rattle.std.specs.Prelude.{◌≡◌, ◌≢◌, ℕ, ◌-◌, ◌/◌, ◌<◌, ◌≤◌, ◌⊎◌, [], ◌∷◌, ◌++◌, Option, None, Some, Result, Ok, Err}
use Rattle.std.specs.declared.alloc.AllocError.{AllocError}
use Rattle.perfdata_order.specs.declared.slots.Slots.{Slots}
use Rattle.perfdata_order.specs.Slots.{slots_of, slot_count, value_at}

module _ {V : Type 0} where
  -- Each slot has the value that it had.
  abbrev pub KeepsValues : Slots V → Slots V → Type 0
  KeepsValues old new = (slot : ℕ) → value_at new slot ≡ value_at old slot

  pub record IsVacant (s : Slots V) (slot : ℕ) : Type 0 where
    pub in_range : slot < slot_count s
    pub vacant : value_at s slot ≡ None

  -- No slot from `start` to before `end` is vacant.
  abbrev pub AreFilled : Slots V → ℕ → ℕ → Type 0
  AreFilled s start end = (slot : ℕ) → start ≤ slot → slot < end → value_at s slot ≢ None

  abbrev pub FindsVacantIn : Slots V → ℕ → ℕ → Option ℕ → Type 0
  FindsVacantIn s start end (Some slot) = IsVacant s slot
  FindsVacantIn s start end None = AreFilled s start end

  abbrev pub FindsAnyVacant : Slots V → Option ℕ → Type 0
  FindsAnyVacant s found = FindsVacantIn s 0 (slot_count s) found

  -- A vacant slot was found: at most three quarters of the slots, rounded up, are used.
  pub record SlotReused (old : Slots V) (used slot : ℕ) (new : Slots V) : Type 0 where
    pub few_used : used ≤ slot_count old - slot_count old / 4
    pub is_vacant : IsVacant old slot
    pub slots : slots_of new ≡ slots_of old

  -- A vacant slot was added: more of the slots are used, or none is vacant.
  pub record SlotAdded (old : Slots V) (used slot : ℕ) (new : Slots V) : Type 0 where
    pub needed : (slot_count old - slot_count old / 4 < used) ⊎ AreFilled old 0 (slot_count old)
    pub is_last : slot ≡ slot_count old
    pub slots : slots_of new ≡ slots_of old ++ None ∷ []

  -- If memory runs out, the slots are unchanged.
  abbrev pub FindsVacant : Slots V → ℕ → Result ℕ AllocError → Slots V → Type 0
  FindsVacant old used (Ok slot) new = SlotReused old used slot new ⊎ SlotAdded old used slot new
  FindsVacant old used (Err e) new = slots_of new ≡ slots_of old
