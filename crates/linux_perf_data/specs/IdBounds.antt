-- Bounds of the indices in an identifier table and an identifier cache.
use Rattle.std.specs.Prelude.{◌≡◌, ℕ, ◌<◌, Some}
use Rattle.perfdata_identifiers.specs.IdCache.{cached_index}
use Rattle.perfdata_identifiers.specs.declared.place.id_cache.IdCache.{IdCache}
use Rattle.linux_perf_data.specs.declared.attributes.id_table.IdTable.{IdTable}
use Rattle.linux_perf_data.specs.IdTable.{id_lookup}

-- All indices are below `n`.
abbrev pub TableIndicesBelow : IdTable → ℕ → Type 0
TableIndicesBelow t n = (id i : ℕ) → id_lookup t id ≡ Some i → i < n

abbrev pub CacheIndicesBelow : IdCache → ℕ → Type 0
CacheIndicesBelow c n = (id i : ℕ) → cached_index c id ≡ Some i → i < n
