-- The frames of a sample, leaf first.
use Rattle.std.specs.Prelude.{◌≡◌, ℕ, ◌-◌, Bool, true, false, List, [], ◌∷◌, map, Option, None, Some, if◌then◌else◌}
use Rattle.perfdata_events.specs.CallChain.{chain_values_of, call_context, frames_of, is_context_change}
use Rattle.perfdata_events.specs.Words.{remaining_u64s}
use Rattle.perfdata_events.specs.declared.fields.call_chain.CallChain.{CallChain}
use Rattle.perfdata_events.specs.declared.fields.call_chain.CallContext.{CallContext}
use Rattle.perfdata_events.specs.declared.fields.call_chain.CallContext.TheVariants.{User}
use Rattle.perfdata_events.specs.declared.sample.SampleRecord.{SampleRecord}
use Rattle.perfdata_stacks.specs.declared.frames.ChainFrames.{ChainFrames}
use Rattle.perfdata_stacks.specs.declared.frames.SampleFrame.{SampleFrame}
use Rattle.perfdata_stacks.specs.declared.frames.SampleFrames.{SampleFrames}

abbrev pub frame_of : CallContext → Bool → ℕ → SampleFrame
frame_of context is_caller address = record { frame = record { address = address; context = context }; is_caller = is_caller }

-- The frames of the values of a call chain after a context: the values that change no context, each with the last context before it.
-- The first one, and the first one after a change of context, is an instruction. Each other one is where a call returns to: a caller.
unfoldable pub chain_frames : CallContext → Bool → List ℕ → List SampleFrame
chain_frames context after_frame [] = []
chain_frames context after_frame (value ∷ values) = if is_context_change value
    then chain_frames (call_context value) false values
    else frame_of context after_frame value ∷ chain_frames context true values

-- The frame of an instruction at an address.
abbrev pub frames_at : Option ℕ → CallContext → List SampleFrame
frames_at None context = []
frames_at (Some address) context = frame_of context false address ∷ []

-- Frames or, if there are none, others.
abbrev pub frames_or : List SampleFrame → List SampleFrame → List SampleFrame
frames_or [] others = others
frames_or (frame ∷ frames) others = frame ∷ frames

abbrev pub frames_in : Option CallChain → List SampleFrame
frames_in None = []
frames_in (Some chain) = chain_frames User false (chain_values_of chain)

-- The frames of the call chain or, if there are none, the frame of the instruction.
abbrev pub sample_frames : SampleRecord → CallContext → List SampleFrame
sample_frames sample context = frames_or (frames_in sample.call_chain) (frames_at sample.ip context)

-- The address at which the code of a frame is looked up.
abbrev pub lookup_address : SampleFrame → ℕ
lookup_address frame = if frame.is_caller then frame.frame.address - 1 else frame.frame.address

-- The frames that an iterator hasn't returned yet.
abbrev pub remaining_chain : ChainFrames → List SampleFrame
remaining_chain iter = chain_frames iter.context iter.after_frame (remaining_u64s iter.values)

abbrev pub rest_of : Option ChainFrames → List SampleFrame
rest_of None = []
rest_of (Some chain) = remaining_chain chain

abbrev pub instruction_frames : Option SampleFrame → List SampleFrame
instruction_frames None = []
instruction_frames (Some frame) = frame ∷ []

abbrev pub remaining_frames : SampleFrames → List SampleFrame
remaining_frames iter = frames_or (rest_of iter.chain) (instruction_frames iter.instruction)

-- The frames of a chain are those of its values: `is_caller` is added to each.
abbrev pub AreChainFrames : Type 0
AreChainFrames = (context : CallContext) (after_frame : Bool) (values : List ℕ)
    → map (λ (f : SampleFrame). f.frame) (chain_frames context after_frame values) ≡ frames_of context values
