-- Steps of private functions: lookups and inserts in an identifier table.
use Rattle.std.specs.Prelude.{◌≡◌, ◌==◌, ℕ, List, take, if◌then◌else◌, Some, Result, Ok, Err}
use Rattle.linux_perf_data.specs.declared.attributes.id_table.IdTable.{IdTable}
use Rattle.linux_perf_data.specs.Attribute.{lists_id}
use Rattle.linux_perf_data.specs.IdTable.{id_lookup}

-- The identifier maps to `index`, and all others are unchanged.
abbrev pub MapsId : IdTable → ℕ → ℕ → IdTable → Type 0
MapsId old id index new = (other : ℕ) → id_lookup new other ≡ (if id == other then Some index else id_lookup old other)

-- Inserts one identifier. On error, all identifiers are unchanged.
abbrev pub InsertsId : {A B : Type 0} → IdTable → ℕ → ℕ → Result A B → IdTable → Type 0
InsertsId old id index (Ok _) new = MapsId old id index new
InsertsId old id index (Err _) new = (other : ℕ) → id_lookup new other ≡ id_lookup old other

-- These identifiers map to `index`, and all others are unchanged.
abbrev pub MapsIds : IdTable → List ℕ → ℕ → IdTable → Type 0
MapsIds old ids index new = (id : ℕ) → id_lookup new id ≡ (if lists_id id ids then Some index else id_lookup old id)

-- Inserts several identifiers. On error, only a prefix of `ids` is inserted.
abbrev pub InsertsIds : {A B : Type 0} → IdTable → List ℕ → ℕ → Result A B → IdTable → Type 0
InsertsIds old ids index (Ok _) new = MapsIds old ids index new
InsertsIds old ids index (Err _) new = (k : ℕ) × MapsIds old (take k ids) index new
