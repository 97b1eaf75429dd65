use Rattle.std.proofs.Common.{◌≡◌}
use Rattle.std.specs.Str.Iter.{split_steps}
use Rattle.std.specs.Str.Pattern.{FindsChar}
use Rattle.perfdata_simpleperf.proofs.EventLines.{EventsSoFar}
use Rattle.perfdata_simpleperf.proofs.simpleperf.event_types.parse_events.Given as goal

abbrev pub invariant-lines : goal.invariant-lines
invariant-lines l = record {
  can : (goal.iterator-lines).can_next l.line-iterator;
  finite : (goal.iterator-lines).is_finite l.line-iterator;
  so_far : EventsSoFar (split_steps FindsChar (λ a b. b ≡ a)) l.text l.line-iterator l.events.items;
}
