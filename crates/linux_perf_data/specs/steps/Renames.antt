-- The names that attributes get by a new name table.
use Rattle.std.specs.Prelude.{◌≡◌, ◌≢◌, ◌⊎◌, ℕ, ◌<◌, Bool, true, false, List, [], length, slice_index_or, Option, None, Result, Ok, Err, Vec, String, string_bytes}
use Rattle.std.specs.List.{All, Any}
use Rattle.std.specs.Option.{option_map}
use Rattle.std.specs.declared.alloc.Global.{Global}
use Rattle.perfdata_sections.specs.declared.error.Error.{Error}
use Rattle.perfdata_sections.specs.declared.error.Error.TheVariants.{Memory}
use Rattle.perfdata_sections.specs.declared.feature_sections.AttributeDescription.{AttributeDescription}
use Rattle.linux_perf_data.specs.FirstIdIndex.{has_first_id, id_lists_of}
use Rattle.linux_perf_data.specs.steps.NameTable.{name_from_table}
use Rattle.linux_perf_data.specs.steps.Names.{names_in}
use Rattle.linux_perf_data.specs.declared.attributes.names.NameTable.{NameTable}

-- The ids and the name of the attribute at an index.
abbrev pub ids_at : List AttributeDescription → ℕ → List ℕ
ids_at ds k = slice_index_or (id_lists_of ds) k []

abbrev pub name_at : List AttributeDescription → ℕ → Option (List ℕ)
name_at ds k = slice_index_or (names_in ds) k None

-- A rename: the index of an attribute, and its new name.
abbrev pub Rename : Type 0
Rename = ℕ × Option (String Global)

-- The index is that of an attribute, and the new name is the one in the table.
abbrev pub IsRename : List AttributeDescription → NameTable → Rename → Type 0
IsRename ds t r = (r.0 < length ds) × (option_map string_bytes r.1 ≡ name_from_table t (ids_at ds r.0))

abbrev pub IsRenamed : ℕ → List Rename → Type 0
IsRenamed k renames = Any (λ r. r.0 ≡ k) renames

-- All renames are by this table. They include each attribute whose name isn't the one in the table.
pub record AreRenamesFor (ds : List AttributeDescription) (t : NameTable) (renames : List Rename) : Type 0 where
  pub valid : All (IsRename ds t) renames
  pub others : (k : ℕ) → k < length ds → IsRenamed k renames ⊎ (name_at ds k ≡ name_from_table t (ids_at ds k))

-- Renames by this table are appended to `old`. They include all attributes but the exempt ones.
pub record AddsRenames (ds : List AttributeDescription) (t : NameTable) (IsExempt : ℕ → Type 0) (old new : List Rename) : Type 0 where
  pub keeps : (k : ℕ) → IsRenamed k old → IsRenamed k new
  pub valid : All (IsRename ds t) old → All (IsRename ds t) new
  pub adds : (k : ℕ) → k < length ds → IsRenamed k new ⊎ IsExempt k

-- Appends renames. The error is `Memory`.
abbrev pub AppendsRenames : {A : Type 0} → List AttributeDescription → NameTable → (ℕ → Type 0) → List Rename → Result A Error → List Rename → Type 0
AppendsRenames ds t IsExempt old (Ok _) new = AddsRenames ds t IsExempt old new
AppendsRenames ds t IsExempt old (Err e) new = e ≡ Memory

-- The attribute at index `k` has another first id.
abbrev pub HasOtherFirstId : List AttributeDescription → ℕ → ℕ → Type 0
HasOtherFirstId ds id k = has_first_id (id_lists_of ds) id k ≡ false

-- Both tables give the attribute at index `k` the same name.
abbrev pub KeepsName : List AttributeDescription → NameTable → NameTable → ℕ → Type 0
KeepsName ds old new k = name_from_table new (ids_at ds k) ≡ name_from_table old (ids_at ds k)

-- `listed` gives the attribute at index `k` no name, or it keeps its name.
abbrev pub IsUnlistedOrKept : List AttributeDescription → NameTable → NameTable → NameTable → ℕ → Type 0
IsUnlistedOrKept ds listed old new k = (name_from_table listed (ids_at ds k) ≡ None) ⊎ KeepsName ds old new k

-- Finds the renames of attributes. The error is `Memory`.
abbrev pub FindsRenames : List AttributeDescription → NameTable → (ℕ → Type 0) → Result (Vec Rename Global) Error → Type 0
FindsRenames ds t IsExempt (Ok renames) = All (IsRename ds t) renames.items × ((k : ℕ) → k < length ds → IsRenamed k renames.items ⊎ IsExempt k)
FindsRenames ds t IsExempt (Err e) = e ≡ Memory

-- Whether two names are equal.
abbrev pub TestsSameName : Option (List ℕ) → Option (List ℕ) → Bool → Type 0
TestsSameName x y true = x ≡ y
TestsSameName x y false = x ≢ y
