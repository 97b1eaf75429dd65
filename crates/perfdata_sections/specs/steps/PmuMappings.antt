-- Steps of private functions: the PMU mappings: a count of four bytes, and for each unit a number of four bytes and a string, the unit's name.
use Rattle.std.specs.BTreeMap.{BTreeMap}
use Rattle.std.specs.Prelude.{◌≡◌, ℕ, ◌+◌, ◌++◌, List, [], ◌∷◌, Result, Ok, Err, String}
use Rattle.std.specs.List.Sorted.{IsStrictlyIncreasing}
use Rattle.std.specs.declared.alloc.Global.{Global}
use Rattle.indexmap.specs.IndexMap.{IndexMap, keys}
use Rattle.perfdata_sources.specs.declared.source.append.AppendError.{AppendError}
use Rattle.perfdata_sources.specs.declared.source.append.AppendError.TheVariants.{Memory}
use Rattle.perfdata_sections.specs.PmuMappings.{PmuUnit, last_name, unit_name, collected_name}

-- If the map has the last name of each number before, it has that after one more unit; or an allocation failed.
abbrev pub CollectsUnit : {A : Type 0} → BTreeMap ℕ (String Global) → PmuUnit → Result A AppendError → BTreeMap ℕ (String Global) → Type 0
CollectsUnit old u (Ok _) new =
    (us : List PmuUnit) → ((q : ℕ) → collected_name old q ≡ last_name us q) → (q : ℕ) → collected_name new q ≡ last_name (us ++ u ∷ []) q
CollectsUnit old u (Err error) new = error ≡ Memory

-- `m` has the same names as the B-tree map, in ascending order of their numbers.
pub record SortsUnits {S : Type 0} (by_number : BTreeMap ℕ (String Global)) (m : IndexMap ℕ (String Global) S) : Type 0 where
  pub is_ascending : IsStrictlyIncreasing (keys m)
  pub names : (k : ℕ) → unit_name m k ≡ collected_name by_number k
