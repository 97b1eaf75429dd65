use Rattle.std.proofs.Common.{arith, refl}
use Rattle.perfdata_arrays.proofs.OverwriteLemmas.{with_entries_at-past_end}
use Rattle.perfdata_arrays.proofs.event_entries.add_entries.Goals as goal

pub returns-then-counts-entries-clause-few : goal.returns-then-counts-entries-clause-few
returns-then-counts-entries-clause-few g c = λ format raw is. (let count = c.entry_count.ensures.value c.args.envelope in let few = c.entry_count.ensures.few format raw is in omega (arith, count, few))

pub returns-else-not-counts_all-clause-few : goal.returns-else-not-counts_all-clause-few
returns-else-not-counts_all-clause-few g c = λ format raw is. (let count = c.entry_count.ensures.value c.args.envelope in let few = c.entry_count.ensures.few format raw is in omega (arith, count, few))

pub returns-else-count-entries-clause-adds : goal.returns-else-count-entries-clause-adds
returns-else-count-entries-clause-adds g c = (
  c.entry_count.ensures.value c.args.envelope,
  refl,
  λ page. (let free = c.requires.free page in let full = c.if-count-entries.false in absurd (omega (arith, free, full))),
  with_entries_at-past_end c.args.count (g.E.EventEntry.entries_of c.args.envelope c.args.event.now) c.args.entries.now c.if-count-entries.false,
)

pub returns-else-count-entries-clause-few : goal.returns-else-count-entries-clause-few
returns-else-count-entries-clause-few g c = λ format raw is. (let count = c.entry_count.ensures.value c.args.envelope in let few = c.entry_count.ensures.few format raw is in omega (arith, count, few))
