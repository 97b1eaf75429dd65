-- What is mapped and what threads are called after records.
use Rattle.std.specs.Prelude.{◌≡◌, ℕ, List, [], ◌∷◌, ◌++◌, length}
use Rattle.perfdata_arrays.specs.Overwrites.{with_entries_at}
use Rattle.perfdata_spaces.specs.AddressSpaces.{Follows}
use Rattle.perfdata_spaces.specs.Effects.{Applied}
use Rattle.perfdata_stack_arrays.specs.Arrays.{count_of}
use Rattle.perfdata_stack_arrays.specs.Mappings.{mappings_in, mappings_of, text_in, text_of}
use Rattle.perfdata_stack_arrays.specs.steps.Names.{FollowsRanges}
use Rattle.perfdata_stack_arrays.specs.declared.mapping.StackMapping.{StackMapping}
use Rattle.perfdata_stack_arrays.specs.declared.state.ProcessState.{ProcessState}

-- The state is that after records.
pub record FollowsState (before : List Applied) (state : ProcessState) : Type 0 where
  pub spaces : Follows before state.spaces
  pub names : FollowsRanges before state.names
  pub mappings : state.counts.mappings ≡ count_of (mappings_in before)
  pub text : state.counts.text ≡ count_of (text_in before)

-- A record was applied after others: the mapping that it adds, and its name or path, are written after those of the others.
pub record AppliesRecord (before : List Applied) (applied : Applied) (mappings : List StackMapping) (text : List ℕ) (new : ProcessState)
    (mappings' : List StackMapping) (text' : List ℕ) : Type 0 where
  pub follows : FollowsState (before ++ applied ∷ []) new
  pub mappings_written : mappings' ≡ with_entries_at (count_of (mappings_in before)) (mappings_of (length (text_in before)) applied) mappings
  pub text_written : text' ≡ with_entries_at (count_of (text_in before)) (text_of applied) text

-- Nothing was counted or written.
pub record KeepsTotals (old : ProcessState) (mappings : List StackMapping) (text : List ℕ) (new : ProcessState) (mappings' : List StackMapping)
    (text' : List ℕ) : Type 0 where
  pub counts : new.counts ≡ old.counts
  pub mappings_kept : mappings' ≡ mappings
  pub text_kept : text' ≡ text
