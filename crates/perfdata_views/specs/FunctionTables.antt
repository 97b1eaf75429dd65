-- The functions of a profile with the weights of their samples.
use Rattle.std.specs.Prelude.{◌≡◌, ℕ, true, Bool, All, List, count_by, take}
use Rattle.std.specs.List.{list_any}
use Rattle.perfdata_profile.specs.Values.{Lists, name_at}
use Rattle.perfdata_views.specs.Counts.{is_line}
use Rattle.perfdata_views.specs.Entries.{Entry, stack_names, weight_where}
use Rattle.perfdata_views.specs.declared.table.FunctionRow.{FunctionRow}

-- Whether a function has the leaf of an entry's stack: if functions are inlined there, the innermost.
abbrev pub is_leaf : List ℕ → Entry → Bool
is_leaf name entry = list_any (is_line name) (take 1 (stack_names entry.0.stack))

-- Whether a function occurs in an entry's stack, once or more often.
abbrev pub occurs : List ℕ → Entry → Bool
occurs name entry = list_any (is_line name) (stack_names entry.0.stack)

-- A row has the sums of its function: those of the entries whose leaf is in it, and those of the entries in which it occurs.
pub record IsRowOf (lists : Lists) (entries : List Entry) (row : FunctionRow) : Type 0 where
  pub own : row.own ≡ weight_where (is_leaf (name_at lists row.name)) entries
  pub total : row.total ≡ weight_where (occurs (name_at lists row.name)) entries
  pub occurs_in : list_any (occurs (name_at lists row.name)) entries ≡ true

-- The rows are those of the functions that occur in entries, each once.
pub record IsTableOf (lists : Lists) (entries : List Entry) (rows : List FunctionRow) : Type 0 where
  pub each : All (IsRowOf lists entries) rows
  pub once : (name : List ℕ) → list_any (occurs name) entries ≡ true
      → count_by (λ (row : FunctionRow). is_line name (name_at lists row.name)) rows ≡ 1
