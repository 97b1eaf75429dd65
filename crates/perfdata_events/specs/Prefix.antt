-- Nothing is skipped: the bytes of a value and the bytes after it are all the bytes, in order.
use Rattle.std.specs.Prelude.{◌≡◌, ℕ, ◌++◌, List}
use Rattle.perfdata_events.specs.Format.{Outcome, encodes}

-- The bytes that a format consumes for a value, before the rest.
abbrev pub ConsumesPrefix : {V : Type 0} → (List ℕ → Outcome V → Type 0) → Type 0
ConsumesPrefix {V} format = (xs : List ℕ) (value : V) (rest : List ℕ) → format xs (encodes value rest) → (consumed : List ℕ) × (xs ≡ consumed ++ rest)
