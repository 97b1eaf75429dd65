-- Steps of private functions: the stacks of whole chains.
use Rattle.std.specs.Prelude.{◌≡◌, ℕ, ◌⊎◌, slice_get, Some}
use Rattle.perfdata_profile.specs.Chains.{ChainValue, chains_in}
use Rattle.perfdata_profile.specs.declared.chain_cache.ChainCache.{ChainCache}

-- A chain is cached.
abbrev pub IsChainIn : ChainCache → ChainValue → Type 0
IsChainIn cache chain = ((index : ℕ) × (slice_get (chains_in cache) index ≡ Some chain))

-- All chains that are cached were cached before.
abbrev pub AddsNoChain : ChainCache → ChainCache → Type 0
AddsNoChain old new = (index : ℕ) (chain : ChainValue) → slice_get (chains_in new) index ≡ Some chain → IsChainIn old chain

-- A chain that is cached was cached before, or is this one.
abbrev pub AddsChain : ChainCache → ChainValue → ChainCache → Type 0
AddsChain old added new = (index : ℕ) (chain : ChainValue) → slice_get (chains_in new) index ≡ Some chain → IsChainIn old chain ⊎ (chain ≡ added)
