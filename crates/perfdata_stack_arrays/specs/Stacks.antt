-- The entries of samples as stacks.
use Rattle.std.specs.Prelude.{◌≡◌, ℕ, ◌<◌, ◌^◌, List, [], ◌∷◌, ◌++◌, length, negsuc, replicate, Option}
use Rattle.std.specs.List.{flat_map}
use Rattle.std.specs.Option.{unwrap_or}
use Rattle.linux_perf_data.specs.RecordEntries.{one_if_some}
use Rattle.perfdata_events.specs.declared.event.EventRecord.{EventRecord}
use Rattle.perfdata_events.specs.declared.event.EventRecord.TheVariants.{Sample}
use Rattle.perfdata_events.specs.declared.fields.task.Task.{Task}
use Rattle.perfdata_events.specs.declared.sample.SampleRecord.{SampleRecord}
use Rattle.perfdata_spaces.specs.Effects.{Applied}
use Rattle.perfdata_stack_arrays.specs.Arrays.{AreRelated, count_of}
use Rattle.perfdata_stack_arrays.specs.Frames.{IsFrameOf, frames_in}
use Rattle.perfdata_stack_arrays.specs.Mappings.{text_in}
use Rattle.perfdata_stack_arrays.specs.Names.{IsNameAt}
use Rattle.perfdata_stack_arrays.specs.Event.{Event}
use Rattle.perfdata_stack_arrays.specs.declared.frame.StackFrame.{StackFrame}
use Rattle.perfdata_stack_arrays.specs.declared.names.TextRange.{TextRange}
use Rattle.perfdata_stack_arrays.specs.declared.stack.FrameRange.{FrameRange}
use Rattle.perfdata_stack_arrays.specs.declared.stack.Stack.{Stack}
use Rattle.perfdata_stack_arrays.specs.declared.stack.StackEnvelope.{StackEnvelope}

-- The process and the thread of a sample. They are -1 for samples without.
abbrev pub task_of : SampleRecord → Task
task_of sample = unwrap_or sample.task (record { pid = negsuc 0; tid = negsuc 0 })

abbrev pub no_text : TextRange
no_text = record { offset = 0; size = 0 }

-- The entry of a sample, with its frames and the name of its thread.
abbrev pub stack_entry_of : StackEnvelope → SampleRecord → FrameRange → Option TextRange → Stack
stack_entry_of envelope sample frames name = record {
  offset = envelope.offset;
  timestamp = unwrap_or sample.timestamp 0;
  period = unwrap_or sample.period 0;
  attr_index = envelope.attr_index;
  frames_start = frames.start;
  frames_count = frames.count;
  name_offset = (unwrap_or name no_text).offset;
  name_size = (unwrap_or name no_text).size;
  pid = (task_of sample).pid;
  tid = (task_of sample).tid;
  misc = envelope.misc;
  has_name = one_if_some name;
  reserved = replicate 5 0;
}

-- The entry of a sample after records, and those of its frames, which are after `frames_start` others.
pub record IsStackOf (before : List Applied) (envelope : StackEnvelope) (sample : SampleRecord) (frames_start : ℕ) (stack : Stack)
    (frames : List StackFrame) : Type 0 where
  pub are_frames : AreRelated (IsFrameOf before (task_of sample).pid) (frames_in envelope.misc sample) frames
  pub name : Option TextRange
  pub is_name : length (text_in before) < 2 ^ 64 → IsNameAt before (task_of sample).tid name
  pub stack_is : stack ≡ stack_entry_of envelope sample (record { start = frames_start; count = count_of frames }) name

-- Records that aren't samples change what is mapped and what threads are called.
abbrev pub applied_as : ℕ → EventRecord → List Applied
applied_as misc (Sample sample) = []
applied_as misc event = record { misc = misc; event = event } ∷ []

abbrev pub applied_by : Event → List Applied
applied_by event = applied_as event.envelope.misc event.parsed

abbrev pub applied_in : List Event → List Applied
applied_in events = flat_map applied_by events

-- The entries of the samples among records, and those of their frames, in order. Each sample is looked up after the records before it.
pub data AreStacksOf : List Event → List Stack → List StackFrame → Type 0 where
  none : AreStacksOf [] [] []
  -- A record that isn't a sample has no entry.
  passed : (events : List Event) (stacks : List Stack) (frames : List StackFrame) (event : Event) (applied : Applied)
      → AreStacksOf events stacks frames → applied_by event ≡ applied ∷ [] → AreStacksOf (events ++ event ∷ []) stacks frames
  -- A sample has one.
  sampled : (events : List Event) (stacks : List Stack) (frames : List StackFrame) (event : Event) (sample : SampleRecord) (stack : Stack)
      (own_frames : List StackFrame)
      → AreStacksOf events stacks frames → event.parsed ≡ Sample sample → IsStackOf (applied_in events) event.envelope sample (count_of frames) stack own_frames
      → AreStacksOf (events ++ event ∷ []) (stacks ++ stack ∷ []) (frames ++ own_frames)
