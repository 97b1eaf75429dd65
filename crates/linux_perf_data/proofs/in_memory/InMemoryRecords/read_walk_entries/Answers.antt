use Rattle.std.proofs.Common.{sym, subst}
use Rattle.linux_perf_data.specs.InMemory.{IsInPlace}
use Rattle.linux_perf_data.specs.RecordEntries.{ReadsEntries}
use Rattle.linux_perf_data.proofs.WalksAhead.{same_records}
use Rattle.linux_perf_data.proofs.in_memory.InMemoryRecords.read_walk_entries.Goals as goal

pub invariant_of-self : goal.invariant_of-self
invariant_of-self c =
    let ahead = c.walk_entries-count.ensures.ahead in
    let records = c.walk_entries-count.new.self in
    record { in_place = subst (λ i. IsInPlace i records.input.now records.first_record_offset) (sym (c.move_iter.ensures ahead.rounds_fit)) ahead.in_place }

pub returns : goal.returns
returns c =
    let ahead = c.walk_entries-count.ensures.ahead in
    let records = c.walk_entries-count.new.self in
    let same = c.move_iter.ensures ahead.rounds_fit in
    same_records (λ r. ReadsEntries c.args.self.now c.args.entries.now c.walk_entries-count.result r c.walk_entries-count.new.entries) records _ c.move_iter.new.records (sym same) ahead.in_place _ c.walk_entries-count.ensures.reads
