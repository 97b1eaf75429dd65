-- The address spaces of processes and of the kernel, as effects change them.
use Rattle.std.specs.Prelude.{◌≡◌, ℕ, ℤ, ◌<◌, ◌^◌, List, [], ◌∷◌, length, map, slice_get, Option, None, Some}
use Rattle.std.specs.List.{flat_map}
use Rattle.std.specs.Option.{option_map}
use Rattle.perfdata_spaces.specs.Effects.{Numbered, added}
use Rattle.perfdata_spaces.specs.Histories.{IndexedMapping, indexed_contains, IsHistory, kernel_mappings, symbol_at, last_that}
use Rattle.perfdata_spaces.specs.Mappings.{MappingValue, mapping_value}
use Rattle.perfdata_spaces.specs.Processes.{value_in}
use Rattle.perfdata_spaces.specs.Ranges.{value_of}
use Rattle.perfdata_spaces.specs.declared.spaces.Spaces.{Spaces}

-- All mappings that were added, by index.
abbrev pub values_of : Spaces → List MappingValue
values_of spaces = map mapping_value spaces.mappings.items

-- The index of the mapping that an effect adds, if it adds one. `next` mappings were added before.
abbrev pub index_of_added : List MappingValue → ℕ → Option ℕ
index_of_added [] next = None
index_of_added (mapping ∷ mappings) next = Some next

-- The mapping with an index, and the index.
abbrev pub indexed_at : List MappingValue → Option ℕ → Option IndexedMapping
indexed_at mappings None = None
indexed_at mappings (Some index) = option_map (λ mapping. record { index = index; mapping = mapping }) (slice_get mappings index)

-- An index is that of a mapping, or none.
abbrev pub IsIndexOf : List MappingValue → Option ℕ → Option IndexedMapping → Type 0
IsIndexOf mappings None found = found ≡ None
IsIndexOf mappings (Some index) found = (index < length mappings) × (indexed_at mappings (Some index) ≡ found)

-- The indices at the addresses of a process are those of the last mappings that contain them.
pub record FollowsProcess (effects : List Numbered) (spaces : Spaces) (pid : ℤ) : Type 0 where
  pub history : List IndexedMapping
  pub is : IsHistory pid effects history
  pub finds : (address : ℕ) → address < 2 ^ 64
      → IsIndexOf (values_of spaces) (value_in spaces.processes pid address) (last_that (indexed_contains address) history)

-- The mappings that effects add.
abbrev pub all_added : List Numbered → List MappingValue
all_added effects = flat_map (λ (numbered : Numbered). added numbered.effect) effects

-- The spaces are those after effects.
pub record FollowsSpaces (effects : List Numbered) (spaces : Spaces) : Type 0 where
  pub mappings : values_of spaces ≡ all_added effects
  pub processes : (pid : ℤ) → FollowsProcess effects spaces pid
  pub kernel : (address : ℕ) → address < 2 ^ 64 → IsIndexOf (values_of spaces) (value_of spaces.kernel address)
      (last_that (indexed_contains address) (kernel_mappings effects))
  pub symbols : (address : ℕ) → address < 2 ^ 64
      → IsIndexOf (values_of spaces) (value_of spaces.symbols address) (symbol_at address effects)
