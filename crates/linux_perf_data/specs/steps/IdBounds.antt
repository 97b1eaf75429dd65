-- Steps of private functions: bounds of the indices in an identifier table and an identifier cache.
use Rattle.std.specs.Prelude.{◌≡◌, ℕ, List, length}
use Rattle.std.specs.Option.{unwrap_or}
use Rattle.linux_perf_data.specs.declared.attributes.id_table.IdTable.{IdTable}
use Rattle.linux_perf_data.specs.Attribute.{Attribute, last_index_listing}
use Rattle.linux_perf_data.specs.IdTable.{id_lookup}
use Rattle.linux_perf_data.specs.IdBounds.{TableIndicesBelow}

-- The table resolves each identifier to the last attribute that lists it, and to 0 if none does.
pub record ResolvesIds (t : IdTable) (attrs : List Attribute) : Type 0 where
  pub in_bounds : TableIndicesBelow t (length attrs)
  pub resolves : (id : ℕ) → unwrap_or (id_lookup t id) 0 ≡ last_index_listing id 0 0 attrs
