use Rattle.std.proofs.Common.{rules, ◌≡◌, true, false, sym, ap, ◌∙◌}
use Rattle.perfdata_events.specs.CallChain.{frames_of}
use Rattle.perfdata_events.specs.Words.{u64s_in}
use Rattle.perfdata_events.proofs.Frames.{no_frames, first_frame, frames_after_change}
use Rattle.perfdata_events.proofs.fields.call_chain.split_first_frame.Goals as goal

pub returns-then-not-is_context_change-clause-some : goal.returns-then-not-is_context_change-clause-some
returns-then-not-is_context_change-clause-some c =
    let no : c.is_context_change.result ≡ false = search rules in
    sym c.values.invariant ∙ first_frame c.values.current (u64s_in c.values.rest) (u64s_in c.in-Some.tail) c.in-Some.value c.in-Some.ensures.some (sym c.is_context_change.ensures ∙ no)

pub values-preserved : goal.values-preserved
values-preserved c =
    let yes : c.is_context_change.result ≡ true = search rules in
    ap (λ k. frames_of k (u64s_in c.in-Some.tail)) c.call_context-current.ensures
    ∙ sym (frames_after_change c.values.current (u64s_in c.values.rest) (u64s_in c.in-Some.tail) c.in-Some.value c.in-Some.ensures.some (sym c.is_context_change.ensures ∙ yes))
    ∙ c.values.invariant

pub returns-clause-none : goal.returns-clause-none
returns-clause-none c = sym c.values.invariant ∙ no_frames c.values.current (u64s_in c.values.rest) c.in_default.ensures.none
