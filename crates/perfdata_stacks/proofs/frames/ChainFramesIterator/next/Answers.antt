use Rattle.std.proofs.Common.{◌≡◌, ◌∙◌, ◌<◌, ap, sym, arith, rules, true, false, length}
use Rattle.perfdata_events.specs.Words.{remaining_u64s}
use Rattle.perfdata_stacks.specs.Frames.{chain_frames, remaining_chain}
use Rattle.perfdata_stacks.proofs.Chains.{first_frame, frames_after_change, no_frames}
use Rattle.perfdata_stacks.proofs.frames.ChainFramesIterator.next.Goals as goal

pub returns-else-is_context_change-clause-steps : goal.returns-else-is_context_change-clause-steps
returns-else-is_context_change-clause-steps c =
    let no : c.is_context_change.result ≡ false = search rules in
    sym c.values.invariant ∙ first_frame c.values.self.context c.values.self.after_frame (remaining_u64s c.values.self.values) (remaining_u64s c.next.new.self) c.in-Some.value c.in-Some.ensures.steps (sym c.is_context_change.ensures ∙ no)

pub returns-else-is_context_change-clause-goes : goal.returns-else-is_context_change-clause-goes
returns-else-is_context_change-clause-goes c =
    let no : c.is_context_change.result ≡ false = search rules in
    let steps = sym c.values.invariant ∙ first_frame c.values.self.context c.values.self.after_frame (remaining_u64s c.values.self.values) (remaining_u64s c.next.new.self) c.in-Some.value c.in-Some.ensures.steps (sym c.is_context_change.ensures ∙ no) in
    let fewer : length (chain_frames c.values.self.context true (remaining_u64s c.next.new.self)) < length (remaining_chain c.args.self.now) = omega (arith, ap length steps) in
    record { on = λ _. (tt, tt, fewer); keeps = tt; rests = λ _. tt }

pub values-preserved : goal.values-preserved
values-preserved c =
    let yes : c.is_context_change.result ≡ true = search rules in
    ap (λ k. chain_frames k false (remaining_u64s c.next.new.self)) c.call_context-context.ensures
    ∙ sym (frames_after_change c.values.self.context c.values.self.after_frame (remaining_u64s c.values.self.values) (remaining_u64s c.next.new.self) c.in-Some.value c.in-Some.ensures.steps (sym c.is_context_change.ensures ∙ yes))
    ∙ c.values.invariant

pub returns-clause-steps : goal.returns-clause-steps
returns-clause-steps c =
    let before = no_frames c.values.self.context c.values.self.after_frame (remaining_u64s c.values.self.values) c.in_default.ensures.steps.0 in
    let after = no_frames c.values.self.context c.values.self.after_frame (remaining_u64s c.next.new.self) c.in_default.ensures.steps.1 in
    (sym c.values.invariant ∙ before, after)
