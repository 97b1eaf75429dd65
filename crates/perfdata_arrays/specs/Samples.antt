-- Samples and frames as plain numbers.
use Rattle.std.specs.Prelude.{ℕ, List, map, pos, Option, None, Some}
use Rattle.std.specs.Option.{option_or, unwrap_or}
use Rattle.std.specs.Int.RustNames.{bit_and}
use Rattle.perfdata_events.specs.CallChain.{frames_of}
use Rattle.perfdata_events.specs.declared.fields.call_chain.CallContext.{CallContext}
use Rattle.perfdata_events.specs.declared.fields.call_chain.CallContext.TheVariants as context
use Rattle.perfdata_events.specs.declared.fields.call_chain.ChainFrame.{ChainFrame}
use Rattle.perfdata_events.specs.declared.fields.task.Task.{Task}
use Rattle.perfdata_events.specs.declared.format.EventFormat.{EventFormat}
use Rattle.perfdata_arrays.specs.declared.samples.body.SampleWords.{SampleWords}
use Rattle.perfdata_arrays.specs.Bodies.{word_bits}
use Rattle.perfdata_arrays.specs.declared.samples.body.BodyError.{BodyError}
use Rattle.perfdata_arrays.specs.declared.samples.body.BodyError.TheVariants.{Truncated, UnknownFields}
use Rattle.perfdata_arrays.specs.declared.samples.body.SampleBody.{SampleBody}
use Rattle.perfdata_arrays.specs.declared.samples.body.SampleBody.TheVariants.{Complete, Words, Nothing}
use Rattle.perfdata_arrays.specs.declared.samples.frame.FrameEntry.{FrameEntry}
use Rattle.perfdata_arrays.specs.declared.samples.sample.Sample.{Sample}
use Rattle.perfdata_arrays.specs.declared.samples.sample.SampleEnvelope.{SampleEnvelope}

-- ---- frames

-- the number of a context
abbrev pub context_code : CallContext → ℕ
context_code context.Unknown = 0
context_code context.Kernel = 1
context_code context.User = 2
context_code context.Hypervisor = 3
context_code context.GuestKernel = 4
context_code context.GuestUser = 5
context_code context.Guest = 6

abbrev pub frame_entry_of : ChainFrame → FrameEntry
frame_entry_of frame = record { address = frame.address; context = context_code frame.context; reserved = 0 }

-- the entries of the frames of a call chain with these values
abbrev pub chain_entries : List ℕ → List FrameEntry
chain_entries values = map frame_entry_of (frames_of context.User values)

-- ---- samples

-- the number of an error
abbrev pub error_code : BodyError → ℕ
error_code Truncated = 1
error_code UnknownFields = 2

-- a process and a thread, or zeros
abbrev pub task_or_none : Option Task → Task
task_or_none None = record { pid = pos 0; tid = pos 0 }
task_or_none (Some task) = task

-- The sample with these words, fields and error. What it doesn't have is 0.
abbrev pub sample_with : SampleEnvelope → SampleWords → ℕ → ℕ → Sample
sample_with envelope words fields error = record {
  offset = envelope.offset;
  timestamp = unwrap_or words.origin.timestamp 0;
  ip = unwrap_or words.origin.ip 0;
  address = unwrap_or words.event.address 0;
  id = unwrap_or (option_or words.origin.identifier words.event.id) 0;
  period = unwrap_or words.period 0;
  frames_start = envelope.frames_start;
  frames_count = envelope.frames_count;
  attr_index = envelope.attr_index;
  fields = fields;
  cpu = unwrap_or words.event.cpu 0;
  pid = (task_or_none words.origin.task).pid;
  tid = (task_or_none words.origin.task).tid;
  misc = envelope.misc;
  error = error;
  reserved = 0;
  reserved_2 = 0;
}

-- no words
abbrev pub no_words : SampleWords
no_words = record {
  origin = record { identifier = None; ip = None; task = None; timestamp = None };
  event = record { address = None; id = None; stream_id = None; cpu = None };
  period = None;
}

-- the bits of all fields that are known: 0 to 24
abbrev pub known_bits : ℕ
known_bits = 33554431

-- the sample with a decoded body
abbrev pub sample_of : SampleEnvelope → EventFormat → SampleBody → Sample
sample_of envelope format (Complete words call_chain) = sample_with envelope words (bit_and format.sample_format.0 known_bits) 0
sample_of envelope format (Words words error) = sample_with envelope words (bit_and format.sample_format.0 word_bits) (error_code error)
sample_of envelope format Nothing = sample_with envelope no_words 0 1
