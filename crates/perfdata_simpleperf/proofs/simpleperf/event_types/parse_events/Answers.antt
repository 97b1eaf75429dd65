use Rattle.std.proofs.Common.{lit<, subst, sym, ◌≡◌}
use Rattle.std.proofs.lemmas.Result.{err_from_is_err_and}
use Rattle.perfdata_simpleperf.specs.EventTypeInfo.{event_type_of}
use Rattle.std.specs.Str.Iter.{split_steps}
use Rattle.std.specs.Str.Pattern.{FindsChar}
use Rattle.std.proofs.lemmas.Iterator.Splits.{YieldsList-from_str_split}
use Rattle.perfdata_simpleperf.proofs.EventLines.{EventsSoFar, events_none, events_more, events_stop, events_whole, events_begin}
use Rattle.perfdata_simpleperf.proofs.simpleperf.event_types.parse_events.Goals as goal

pub lines-init : goal.lines-init
lines-init c =
    let split = c.split-line-items.ensures in
    record {
      can = tt;
      finite = tt;
      so_far = subst (λ s. EventsSoFar (split_steps FindsChar (λ a b. b ≡ a)) c.args.text.now s c.new-events.result.items) (sym c.into_iter-line-iterator.ensures.into_iter_gives)
          (events_none (split_steps FindsChar (λ a b. b ≡ a)) c.args.text.now c.split-line-items.result c.new-events.result.items c.new-events.ensures.items
          (YieldsList-from_str_split {s = c.split-line-items.result} 10 c.args.text.now (lit< tt) split.text split.has_more split.pattern));
    }

pub returns-in_default-clause-events : goal.returns-in_default-clause-events
returns-in_default-clause-events c =
    events_stop (split_steps FindsChar (λ a b. b ≡ a)) c.args.text.now c.lines.line-iterator c.next.new.self c.lines.events.items c.in-Some.line c.lines.invariant.so_far c.in-Some.ensures.steps
    (rw c.in_default.is at c.in_ok-event.ensures.event)

pub lines-preserved : goal.lines-preserved
lines-preserved c = record {
  can = tt;
  finite = tt;
  so_far = events_more (split_steps FindsChar (λ a b. b ≡ a)) c.args.text.now c.lines.line-iterator c.next.new.self c.lines.events.items c.push.new.self.items c.in-Some.line c.in-Some-2.event c.lines.invariant.so_far
      c.in-Some.ensures.steps (rw c.in-Some-2.is at c.in_ok-event.ensures.event) c.in_ok-push.ensures.items;
}

pub returns-clause-events : goal.returns-clause-events
returns-clause-events c = events_whole (split_steps FindsChar (λ a b. b ≡ a)) c.args.text.now c.lines.line-iterator c.next.new.self c.lines.events.items c.lines.invariant.so_far c.in-None.ensures.steps

pub returns-in_err-event-clause-memory : goal.returns-in_err-event-clause-memory
returns-in_err-event-clause-memory c =
    let p = err_from_is_err_and c.from_residual.result c.from_residual.ensures.1 in
    rw p.1 (events_begin (split_steps FindsChar (λ a b. b ≡ a)) c.args.text.now c.lines.line-iterator c.next.new.self c.lines.events.items c.in-Some.line c.in_err-event.ensures.memory.0 c.lines.invariant.so_far c.in-Some.ensures.steps
    c.in_err-event.ensures.memory.1)

pub returns-in_err-push-clause-memory : goal.returns-in_err-push-clause-memory
returns-in_err-push-clause-memory c =
    let p = err_from_is_err_and c.from_residual-in_err-push.result c.from_residual-in_err-push.ensures.1 in
    rw p.1 (events_begin (split_steps FindsChar (λ a b. b ≡ a)) c.args.text.now c.lines.line-iterator c.next.new.self c.lines.events.items c.in-Some.line (event_type_of c.in-Some-2.event) c.lines.invariant.so_far c.in-Some.ensures.steps
    (rw c.in-Some-2.is at c.in_ok-event.ensures.event))
