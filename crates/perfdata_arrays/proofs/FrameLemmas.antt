-- The number of a chain's frames.
use Rattle.std.proofs.Common.{ℕ, ◌+◌, ◌≤◌, Bool, true, false, List, [], ◌∷◌, length, arith}
use Rattle.std.specs.Prelude.{if◌then◌else◌}
use Rattle.perfdata_events.specs.CallChain.{call_context, frames_of, is_context_change}
use Rattle.perfdata_events.specs.declared.fields.call_chain.CallContext.{CallContext}
use Rattle.perfdata_events.specs.declared.fields.call_chain.ChainFrame.{ChainFrame}

-- no chain has more frames than values
chosen : (b : Bool) (n : ℕ) (frame : ChainFrame) (changed same : List ChainFrame) → length changed ≤ n → length same ≤ n → length (if b then changed else frame ∷ same) ≤ n + 1
chosen true n frame changed same a b = omega (arith, a)
chosen false n frame changed same a b = omega (arith, b)

pub frames_within : (context : CallContext) (values : List ℕ) → length (frames_of context values) ≤ length values
unfolding frames_of
frames_within context [] = omega arith
frames_within context (value ∷ values) =
    let changed = frames_within (call_context value) values in
    let same = frames_within context values in
    let both = chosen (is_context_change value) (length values) (record { address = value; context = context }) (frames_of (call_context value) values) (frames_of context values) changed same in
    omega (arith, both)
