-- The index of attributes by their first ids.
use Rattle.std.specs.Prelude.{◌≡◌, ℕ, zero, suc, ◌<◌, ◌≤◌, Bool, true, List, [], ◌∷◌, map, length, slice_index_or, if◌then◌else◌, Option, None, Some}
use Rattle.std.specs.BTreeMap.{get}
use Rattle.std.specs.Ordering.{nat_cmp}
use Rattle.perfdata_sections.specs.AttributeDescription.{ids_in}
use Rattle.perfdata_sections.specs.declared.feature_sections.AttributeDescription.{AttributeDescription}
use Rattle.linux_perf_data.specs.Names.{same_first_id}
use Rattle.linux_perf_data.specs.declared.attributes.first_id_index.FirstIdIndex.{FirstIdIndex}

-- The ids of each attribute.
abbrev pub id_lists_of : List AttributeDescription → List (List ℕ)
id_lists_of ds = map ids_in ds

-- Whether the attribute at index `k` has this first id.
abbrev pub has_first_id : List (List ℕ) → ℕ → ℕ → Bool
has_first_id lists id k = same_first_id (slice_index_or lists k []) (id ∷ [])

-- The greatest index below a bound of an attribute with this first id.
abbrev pub last_with_first_id : List (List ℕ) → ℕ → ℕ → Option ℕ
last_with_first_id lists id zero = None
last_with_first_id lists id (suc k) = if has_first_id lists id k then Some k else last_with_first_id lists id k

-- The index contains the first attributes of a list, `length x.previous.items` of them. It maps each id to the last of them whose
-- first id it is, and each of them to the previous one with its first id.
pub record IndexesAttributes (x : FirstIdIndex) (lists : List (List ℕ)) : Type 0 where
  pub in_bounds : length x.previous.items ≤ length lists
  pub last : (id : ℕ) → get nat_cmp x.last id ≡ last_with_first_id lists id (length x.previous.items)
  pub previous : (id k : ℕ) → k < length x.previous.items → has_first_id lists id k ≡ true
      → slice_index_or x.previous.items k None ≡ last_with_first_id lists id k
