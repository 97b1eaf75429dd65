use Rattle.std.proofs.Common.{arith, ap, ◌∙◌, length}
use Rattle.perfdata_arrays.proofs.CounterLemmas.{event_within}
use Rattle.perfdata_arrays.specs.Counters.{counter_entries}
use Rattle.perfdata_arrays.proofs.counters.CounterEntryEventEntry.entry_count.Goals as goal

pub returns : goal.returns
returns c = record {
  value = λ envelope. c.count_counters.ensures envelope.offset ∙ ap (λ v. length (counter_entries envelope.offset v)) c.values_of_event.ensures;
  few = λ format raw is.
      (let count = c.count_counters.ensures 0 ∙ ap (λ v. length (counter_entries 0 v)) c.values_of_event.ensures in
      let within = event_within format raw (record { offset = 0; timestamp = 0; body_offset = 0; misc = 0 }) c.args.event.now is in
      omega (arith, count, within));
}
