-- Each list of bytes has exactly one outcome in a format.
use Rattle.std.specs.Prelude.{◌≡◌, ℕ, List}
use Rattle.perfdata_events.specs.Format.{Outcome}

abbrev pub HasOneOutcome : {V : Type 0} → (List ℕ → Outcome V → Type 0) → Type 0
HasOneOutcome {V} format = (xs : List ℕ) → (outcome : Outcome V) × format xs outcome × ((other : Outcome V) → format xs other → other ≡ outcome)
