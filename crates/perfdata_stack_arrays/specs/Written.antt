-- What is written into arrays.
use Rattle.std.specs.Prelude.{◌≡◌, ℕ, List}
use Rattle.linux_perf_data.specs.RecordEntries.{with_prefix}
use Rattle.perfdata_stack_arrays.specs.Arrays.{count_of}
use Rattle.perfdata_stack_arrays.specs.declared.frame.StackFrame.{StackFrame}
use Rattle.perfdata_stack_arrays.specs.declared.mapping.StackMapping.{StackMapping}
use Rattle.perfdata_stack_arrays.specs.declared.stack.Stack.{Stack}
use Rattle.perfdata_stack_arrays.specs.declared.totals.StackTotals.{StackTotals}

-- What calls write: lists that arrays contain up to their capacities.
pub record Written : Type 0 where
  pub stacks : List Stack
  pub frames : List StackFrame
  pub mappings : List StackMapping
  pub text : List ℕ

-- The first elements of arrays are these, up to their capacities. The others are as before.
pub record WritesAll (own before after : Written) : Type 0 where
  pub stacks : after.stacks ≡ with_prefix own.stacks before.stacks
  pub frames : after.frames ≡ with_prefix own.frames before.frames
  pub mappings : after.mappings ≡ with_prefix own.mappings before.mappings
  pub text : after.text ≡ with_prefix own.text before.text

abbrev pub totals_of : Written → StackTotals
totals_of own = record {
  stack_count = count_of own.stacks;
  frame_count = count_of own.frames;
  mapping_count = count_of own.mappings;
  text_size = count_of own.text;
}
