-- Lookups and inserts in an identifier table.
use Rattle.std.specs.Prelude.{ℕ, Option}
use Rattle.linux_perf_data.specs.declared.attributes.id_table.IdTable.{IdTable}
use Rattle.std.specs.BTreeMap.{get}
use Rattle.std.specs.Option.{option_or}
use Rattle.std.specs.Ordering.{nat_cmp}
use Rattle.linux_perf_data.specs.IdPairs.{index_of_id}

-- The index of an identifier in the pairs of the opening.
abbrev pub id_lookup_in_pairs : IdTable → ℕ → Option ℕ
id_lookup_in_pairs t id = index_of_id id t.pairs.items

-- The index of an identifier in the table. A late identifier takes precedence over those of the opening.
abbrev pub id_lookup : IdTable → ℕ → Option ℕ
id_lookup t id = option_or (get nat_cmp t.late_ids id) (id_lookup_in_pairs t id)
