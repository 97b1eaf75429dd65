-- The frames of a call chain.
use Rattle.std.proofs.Common.{◌≡◌, ℕ, true, false, not, cond, List, [], ◌∷◌, ◌++◌, refl, ap, ◌∙◌}
use Rattle.std.specs.Prelude.{map, filter}
use Rattle.perfdata_events.specs.declared.fields.call_chain.ChainFrame.{ChainFrame}
use Rattle.perfdata_events.specs.CallChain.{is_context_change, call_context, frames_of, last_context}
use Rattle.perfdata_events.specs.declared.fields.call_chain.CallContext.{CallContext}

pub no_frames : (context : CallContext) (values : List ℕ) → values ≡ [] → frames_of context values ≡ []
unfolding frames_of
no_frames context values none = ap (frames_of context) none

-- A context change and the values after it have the frames of these values after the context.
pub frames_after_change : (context : CallContext) (values others : List ℕ) (value : ℕ) → values ≡ value ∷ others → is_context_change value ≡ true
    → frames_of context values ≡ frames_of (call_context value) others
unfolding frames_of
frames_after_change context values others value split change = ap (frames_of context) split ∙ rw change refl

-- A value that is no context change is the first frame.
pub first_frame : (context : CallContext) (values others : List ℕ) (value : ℕ) → values ≡ value ∷ others → is_context_change value ≡ false
    → frames_of context values ≡ record { address = value; context = context } ∷ frames_of context others
unfolding frames_of
first_frame context values others value split change = ap (frames_of context) split ∙ rw change refl

-- The addresses of the frames are the values that change no context.
pub frame_addresses : (context : CallContext) (values : List ℕ) → map (λ (f : ChainFrame). f.address) (frames_of context values) ≡ filter (λ v. not (is_context_change v)) values
unfolding frames_of
frame_addresses context [] = refl
frame_addresses context (v ∷ vs) =
    elim (is_context_change v) as (λ b. map (λ (f : ChainFrame). f.address) (cond b (frames_of (call_context v) vs) (record { address = v; context = context } ∷ frames_of context vs))
    ≡ cond (not b) (v ∷ filter (λ w. not (is_context_change w)) vs) (filter (λ w. not (is_context_change w)) vs))
    [ true ↦ frame_addresses (call_context v) vs | false ↦ ap (λ l. v ∷ l) (frame_addresses context vs) ]

-- Values after others have their frames after the context of these.
pub frames_append : (context : CallContext) (before later : List ℕ) → frames_of context (before ++ later) ≡ frames_of context before ++ frames_of (last_context context before) later
unfolding frames_of last_context
frames_append context [] later = refl
frames_append context (v ∷ vs) later =
    elim (is_context_change v) as (λ b. cond b (frames_of (call_context v) (vs ++ later)) (record { address = v; context = context } ∷ frames_of context (vs ++ later))
    ≡ cond b (frames_of (call_context v) vs) (record { address = v; context = context } ∷ frames_of context vs) ++ frames_of (last_context (cond b (call_context v) context) vs) later)
    [ true ↦ frames_append (call_context v) vs later | false ↦ ap (λ l. record { address = v; context = context } ∷ l) (frames_append context vs later) ]
