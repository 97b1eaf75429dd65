-- The frames of a call chain, with callers.
use Rattle.std.proofs.Common.{◌≡◌, ◌∙◌, ap, refl, ℕ, Bool, true, false, cond, List, [], ◌∷◌, map}
use Rattle.perfdata_events.specs.CallChain.{is_context_change, call_context, frames_of}
use Rattle.perfdata_events.specs.declared.fields.call_chain.CallContext.{CallContext}
use Rattle.perfdata_stacks.specs.Frames.{chain_frames, frame_of}
use Rattle.perfdata_stacks.specs.declared.frames.SampleFrame.{SampleFrame}

pub no_frames : (context : CallContext) (after_frame : Bool) (values : List ℕ) → values ≡ [] → chain_frames context after_frame values ≡ []
unfolding chain_frames
no_frames context after_frame values none = ap (chain_frames context after_frame) none

-- A context change and the values after it have the frames of these values after the context.
pub frames_after_change : (context : CallContext) (after_frame : Bool) (values others : List ℕ) (value : ℕ) → values ≡ value ∷ others → is_context_change value ≡ true
    → chain_frames context after_frame values ≡ chain_frames (call_context value) false others
unfolding chain_frames
frames_after_change context after_frame values others value split change = ap (chain_frames context after_frame) split ∙ rw change refl

-- A value that is no context change is the first frame.
pub first_frame : (context : CallContext) (after_frame : Bool) (values others : List ℕ) (value : ℕ) → values ≡ value ∷ others → is_context_change value ≡ false
    → chain_frames context after_frame values ≡ frame_of context after_frame value ∷ chain_frames context true others
unfolding chain_frames
first_frame context after_frame values others value split change = ap (chain_frames context after_frame) split ∙ rw change refl

pub are_chain_frames : (context : CallContext) (after_frame : Bool) (values : List ℕ) → map (λ (f : SampleFrame). f.frame) (chain_frames context after_frame values) ≡ frames_of context values
unfolding chain_frames frames_of
are_chain_frames context after_frame [] = refl
are_chain_frames context after_frame (v ∷ vs) =
    elim (is_context_change v) as (λ b. map (λ (f : SampleFrame). f.frame) (cond b (chain_frames (call_context v) false vs) (frame_of context after_frame v ∷ chain_frames context true vs))
    ≡ cond b (frames_of (call_context v) vs) (record { address = v; context = context } ∷ frames_of context vs))
    [ true ↦ are_chain_frames (call_context v) false vs | false ↦ ap (λ l. record { address = v; context = context } ∷ l) (are_chain_frames context true vs) ]
