-- The entries of a sorter: keys with slots, and the values in the slots.
use Rattle.std.specs.Prelude.{ℕ, ◌≤◌, ◌==◌, List, Option, None, Some, if◌then◌else◌}
use Rattle.std.specs.List.{filter_map, sum_by}

-- The key with its value, if there is one.
abbrev pub with_value : {K V : Type 0} → K → Option V → Option (K × V)
with_value key None = None
with_value key (Some value) = Some (key, value)

-- The keys with the values in their slots.
abbrev pub entries_by : {K V : Type 0} → (ℕ → Option V) → List (K × ℕ) → List (K × V)
entries_by value_at order = filter_map (λ e. with_value e.0 (value_at e.1)) order

-- How many keys have this slot.
abbrev pub uses_of : {K : Type 0} → ℕ → List (K × ℕ) → ℕ
uses_of slot order = sum_by (λ e. if e.1 == slot then 1 else 0) order

abbrev pub values_in : {V : Type 0} → Option V → ℕ
values_in None = 0
values_in (Some value) = 1

-- Each key has a slot with a value, and no other key has that slot.
abbrev pub IsPlaced : {K V : Type 0} → (ℕ → Option V) → List (K × ℕ) → Type 0
IsPlaced value_at order = (slot : ℕ) → uses_of slot order ≤ values_in (value_at slot)

-- Each value is that of a key.
abbrev pub HaveKeys : {K V : Type 0} → (ℕ → Option V) → List (K × ℕ) → Type 0
HaveKeys value_at order = (slot : ℕ) → values_in (value_at slot) ≤ uses_of slot order
