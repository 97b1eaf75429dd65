use Rattle.std.proofs.Common.{arith, refl, ◌∙◌}
use Rattle.linux_perf_data.specs.steps.FileWalk.{records_at_walk}
use Rattle.linux_perf_data.specs.steps.WalkEntries.{EntriesSoFar}
use Rattle.linux_perf_data.proofs.EntryLemmas.{one_entry_more}
use Rattle.linux_perf_data.proofs.WalksAhead.{same_at_walk}
use Rattle.linux_perf_data.proofs.in_memory.InMemoryRecords.walk_kernel_entries.Goals as goal

pub records-init : goal.records-init
records-init c = record {
  ahead = c.requires.ahead;
  so_far = λ before start array s. same_at_walk (λ r. EntriesSoFar start array r c.args.entries.now c.args.count) c.args.self.now c.args.walk.now before c.requires.ahead s;
  from_count = omega arith;
  same_first = refl;
}

pub records-preserved : goal.records-preserved
records-preserved c =
    let i = c.records.invariant in
    let taken = c.take_entry.ensures i.ahead in
    let from = i.from_count in
    record {
      ahead = taken.ahead';
      so_far = λ before start array s.
          one_entry_more start (records_at_walk c.records.self c.records.walk i.ahead) (records_at_walk c.take_entry.new.self c.take_entry.new.walk taken.ahead') c.args.perf_file.now array c.records.entries c.records.count c.take_entry.result (i.so_far before start array s) taken.taken c.records-test.true;
      from_count = omega (arith, from);
      same_first = taken.taken.same_input.first_record_offset ∙ i.same_first;
    }

pub returns-after-records-clause-more : goal.returns-after-records-clause-more
returns-after-records-clause-more c = λ ahead start array. record { ahead = c.records.invariant.ahead; so_far = c.records.invariant.so_far ahead start array }

pub returns-in-None-clause-more : goal.returns-in-None-clause-more
returns-in-None-clause-more c = λ ahead start array. record { ahead = c.records.invariant.ahead; so_far = c.records.invariant.so_far ahead start array }
