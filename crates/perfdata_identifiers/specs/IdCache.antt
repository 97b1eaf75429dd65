-- A cache of pairs of an identifier and the index of its attribute, as a finite map.
use Rattle.std.specs.Prelude.{ℕ, ◌%◌, ◌==◌, if◌then◌else◌, slice_index_or, Option, None, Some}
use Rattle.perfdata_identifiers.specs.declared.place.id_cache.IdCache.{IdCache}
use Rattle.perfdata_identifiers.specs.declared.place.id_cache.Pair.{Pair}

-- the index in a slot, for the identifier of its pair alone
abbrev pub slot_index : Option Pair → ℕ → Option ℕ
slot_index None id = None
slot_index (Some p) id = if p.id == id then Some p.index else None

-- the index that a cache contains for an identifier
abbrev pub cached_index : IdCache → ℕ → Option ℕ
cached_index c id = slot_index (slice_index_or c.slots (id % 64) None) id
