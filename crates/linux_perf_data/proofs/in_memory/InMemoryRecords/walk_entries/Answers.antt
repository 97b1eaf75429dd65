use Rattle.std.proofs.Common.{arith, [], refl, sym, subst}
use Rattle.linux_perf_data.specs.steps.FileWalk.{PeeksNextRecord, records_at_walk}
use Rattle.linux_perf_data.specs.steps.WalkEntries.{EntriesSoFar}
use Rattle.linux_perf_data.proofs.EntryLemmas.{one_entry_more}
use Rattle.linux_perf_data.proofs.WalksAhead.{at_start, walk_starts}
use Rattle.linux_perf_data.proofs.WalkedEntries.{read_all, read_up_to_marker}
use Rattle.linux_perf_data.proofs.in_memory.InMemoryRecords.walk_entries.Goals as goal

pub records-init : goal.records-init
records-init c =
    let self = c.args.self.now in
    let array = c.args.entries.now in
    record {
      ahead = walk_starts self c.args.walk.now c.requires;
      so_far = at_start (λ r. EntriesSoFar self array r array 0) self c.args.walk.now c.requires
          record { records = []; count_is = refl; fits = omega arith; written = refl; returned = λ file. (refl, refl); body_bytes_at = tt; same_input = record { input = refl; first_record_offset = refl } };
    }

pub records-preserved : goal.records-preserved
records-preserved c =
    let self = c.args.self.now in
    let array = c.args.entries.now in
    let i = c.records.invariant in
    let step = c.walk_kernel_entries-count in
    let more = step.ensures.more i.ahead self array in
    let taken = c.take_entry.ensures more.ahead in
    record {
      ahead = taken.ahead';
      so_far = one_entry_more self (records_at_walk step.new.self step.new.walk more.ahead) (records_at_walk c.take_entry.new.self c.take_entry.new.walk taken.ahead') c.args.perf_file.now array step.new.entries step.result c.take_entry.result (more.so_far i.so_far) taken.taken c.if-count-entries.false;
    }

pub take_entry-requires-clause-ahead : goal.take_entry-requires-clause-ahead
take_entry-requires-clause-ahead c = (c.walk_kernel_entries-count.ensures.more c.records.invariant.ahead c.args.self.now c.args.entries.now).ahead

pub take_entry-requires-clause-first : goal.take_entry-requires-clause-first
take_entry-requires-clause-first c =
    let more = c.walk_kernel_entries-count.ensures.more c.records.invariant.ahead c.args.self.now c.args.entries.now in
    sym (more.so_far c.records.invariant.so_far).same_input.first_record_offset

-- at the end of the array, or where the array was empty
pub returns-after-records : goal.returns-after-records
returns-after-records c = read_all c.args.self.now c.args.entries.now c.records.self c.records.walk c.records.entries c.records.count c.records.invariant.ahead c.records.invariant.so_far c.records-test.false

-- at the end of the array
pub returns-then-count-entries : goal.returns-then-count-entries
returns-then-count-entries c =
    let step = c.walk_kernel_entries-count in
    let more = step.ensures.more c.records.invariant.ahead c.args.self.now c.args.entries.now in
    read_all c.args.self.now c.args.entries.now step.new.self step.new.walk step.new.entries step.result more.ahead (more.so_far c.records.invariant.so_far) c.if-count-entries.true

-- where no record is taken
pub returns-in-None : goal.returns-in-None
returns-in-None c =
    let step = c.walk_kernel_entries-count in
    let more = step.ensures.more c.records.invariant.ahead c.args.self.now c.args.entries.now in
    read_up_to_marker c.args.self.now c.args.entries.now step.new.self step.new.walk step.new.entries step.result more.ahead (more.so_far c.records.invariant.so_far) (subst (PeeksNextRecord step.new.walk) c.in-None.is c.peek.ensures)
