-- Steps of private functions: the ranges of chains.
use Rattle.std.specs.Prelude.{◌≡◌, ℕ, ◌≤◌, List, slice_get, Some}
use Rattle.perfdata_profile.specs.declared.chain_cache.Chain.{Chain}

-- The ranges of chains are within this many frames.
abbrev pub AreRanges : List Chain → ℕ → Type 0
AreRanges chains count = (index : ℕ) (chain : Chain) → slice_get chains index ≡ Some chain → (chain.start ≤ chain.end) × (chain.end ≤ count)
