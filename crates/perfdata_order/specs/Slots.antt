-- Values in numbered slots.
use Rattle.std.specs.Prelude.{ℕ, ◌-◌, List, length, Option, None, slice_index_or}
use Rattle.perfdata_order.specs.declared.slots.Slots.{Slots}

module _ {V : Type 0} where
  abbrev pub slots_of : Slots V → List (Option V)
  slots_of s = s.values.items

  -- The number of slots.
  abbrev pub slot_count : Slots V → ℕ
  slot_count s = length (slots_of s)

  -- The value in a slot, if it isn't vacant.
  abbrev pub value_at : Slots V → ℕ → Option V
  value_at s slot = slice_index_or (slots_of s) slot None
