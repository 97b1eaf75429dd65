-- The first description that starts with an id.
use Rattle.std.specs.Prelude.{◌≡◌, ℕ, ◌+◌, List, [], ◌∷◌, if◌then◌else◌, Option, None, Some}
use Rattle.std.specs.BTreeMap.{BTreeMap, get}
use Rattle.std.specs.Ordering.{nat_cmp}
use Rattle.perfdata_sections.specs.AttributeDescription.{ids_in}
use Rattle.perfdata_sections.specs.declared.feature_sections.AttributeDescription.{AttributeDescription}
use Rattle.linux_perf_data.specs.Names.{same_first_id}

-- The index of the first description whose first id is `id`, where the first description has index `i`.
abbrev pub first_index_with_id : ℕ → ℕ → List AttributeDescription → Option ℕ
first_index_with_id id i [] = None
first_index_with_id id i (d ∷ ds) = if same_first_id (ids_in d) (id ∷ []) then Some i else first_index_with_id id (i + 1) ds

-- The map contains, for each id, the index of the first description whose first id it is.
abbrev pub IndexesFirstIds : BTreeMap ℕ ℕ → List AttributeDescription → Type 0
IndexesFirstIds first events = (id : ℕ) → get nat_cmp first id ≡ first_index_with_id id 0 events
