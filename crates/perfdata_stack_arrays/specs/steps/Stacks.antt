-- Steps of private functions: the entries of samples as stacks.
use Rattle.std.specs.Prelude.{◌≡◌, ℕ, List, [], ◌∷◌}
use Rattle.perfdata_arrays.specs.Overwrites.{with_entries_at}
use Rattle.perfdata_events.specs.declared.sample.SampleRecord.{SampleRecord}
use Rattle.perfdata_spaces.specs.Effects.{Applied}
use Rattle.perfdata_stack_arrays.specs.Arrays.{count_of}
use Rattle.perfdata_stack_arrays.specs.declared.frame.StackFrame.{StackFrame}
use Rattle.perfdata_stack_arrays.specs.declared.stack.Stack.{Stack}
use Rattle.perfdata_stack_arrays.specs.declared.stack.StackEnvelope.{StackEnvelope}
use Rattle.perfdata_stack_arrays.specs.Stacks.{IsStackOf}

-- The entry of a sample is written at an index, and those of its frames after the first elements, up to the capacities. The frames are
-- counted.
pub record WritesStack (before : List Applied) (envelope : StackEnvelope) (sample : SampleRecord) (count used : ℕ) (stacks : List Stack)
    (frames : List StackFrame) (added : ℕ) (stacks' : List Stack) (frames' : List StackFrame) : Type 0 where
  pub stack : Stack
  pub own_frames : List StackFrame
  pub is : IsStackOf before envelope sample used stack own_frames
  pub added_is : added ≡ count_of own_frames
  pub written : stacks' ≡ with_entries_at count (stack ∷ []) stacks
  pub frames_written : frames' ≡ with_entries_at used own_frames frames
