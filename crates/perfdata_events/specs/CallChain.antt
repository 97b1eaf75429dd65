-- The frames of a call chain (`enum perf_callchain_context` of Linux's `perf_event.h`). A value of -4095 and above, as a u64, changes the
-- context: -32 is the hypervisor, -128 the kernel, -512 a program, -2048 a guest, -2176 a guest's kernel and -2560 a guest's program. It
-- is no frame. Before the first change the context is a program.
use Rattle.std.specs.Prelude.{ℕ, ◌-◌, ◌^◌, ◌==◌, nat_le, Bool, List, [], ◌∷◌, if◌then◌else◌}
use Rattle.perfdata_events.specs.Fields.{u64_at}
use Rattle.perfdata_events.specs.Format.{Outcome, fixed, led}
use Rattle.perfdata_events.specs.Words.{u64s, u64s_in}
use Rattle.perfdata_events.specs.declared.fields.call_chain.CallContext.{CallContext}
use Rattle.perfdata_events.specs.declared.fields.call_chain.CallContext.TheVariants.{Hypervisor, Kernel, User, Guest, GuestKernel, GuestUser, Unknown}
use Rattle.perfdata_events.specs.declared.fields.call_chain.ChainFrame.{ChainFrame}
use Rattle.perfdata_events.specs.declared.fields.call_chain.CallChain.{CallChain}
use Rattle.perfdata_events.specs.declared.fields.call_chain.CallChainIter.{CallChainIter}

-- The values of a chain, those that are context changes too.
abbrev pub chain_values_of : CallChain → List ℕ
chain_values_of v = u64s_in v.values

module _ (number : ℕ → List ℕ → ℕ) where
  -- { u64 nr; u64 ips[nr]; }
  abbrev pub chain : List ℕ → Outcome (List ℕ) → Type 0
  chain = led (fixed 8 (u64_at number 0)) (λ count. u64s number count)

abbrev pub is_context_change : ℕ → Bool
is_context_change value = nat_le (2 ^ 64 - 4095) value

abbrev pub call_context : ℕ → CallContext
call_context value = if value == 2 ^ 64 - 32 then Hypervisor
    else if value == 2 ^ 64 - 128 then Kernel
    else if value == 2 ^ 64 - 512 then User
    else if value == 2 ^ 64 - 2048 then Guest
    else if value == 2 ^ 64 - 2176 then GuestKernel
    else if value == 2 ^ 64 - 2560 then GuestUser
    else Unknown

-- The frames of the values after a context: the values that change no context, each with the last context before it.
unfoldable pub frames_of : CallContext → List ℕ → List ChainFrame
frames_of context [] = []
frames_of context (value ∷ values) = if is_context_change value
    then frames_of (call_context value) values
    else record { address = value; context = context } ∷ frames_of context values

-- The context after values.
unfoldable pub last_context : CallContext → List ℕ → CallContext
last_context context [] = context
last_context context (value ∷ values) = last_context (if is_context_change value then call_context value else context) values

-- The frames that an iterator hasn't returned yet.
abbrev pub remaining_frames : CallChainIter → List ChainFrame
remaining_frames iter = frames_of iter.context (u64s_in iter.values)
