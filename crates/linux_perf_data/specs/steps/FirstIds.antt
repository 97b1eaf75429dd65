-- Steps of private functions: the first description that starts with an id.
use Rattle.std.specs.Prelude.{◌≡◌, ℕ, List, [], ◌∷◌, if◌then◌else◌, Some}
use Rattle.std.specs.BTreeMap.{BTreeMap, get}
use Rattle.std.specs.Ordering.{nat_cmp}
use Rattle.linux_perf_data.specs.Names.{same_first_id}

-- The first of `ids` maps to `index`, and all other ids map to what they mapped to before.
abbrev pub InsertsFirstId : BTreeMap ℕ ℕ → List ℕ → ℕ → BTreeMap ℕ ℕ → Type 0
InsertsFirstId old ids index new = (id : ℕ) → get nat_cmp new id ≡ (if same_first_id ids (id ∷ []) then Some index else get nat_cmp old id)
