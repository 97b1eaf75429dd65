use Rattle.std.proofs.Common.{◌≡◌, subst}
use Rattle.linux_perf_data.specs.steps.InMemory.{TakesRecord}
use Rattle.linux_perf_data.proofs.in_memory.iter.take_record.Goals as goal

pub returns-in-Some : goal.returns-in-Some
returns-in-Some c = (rw c.in-Some.is at c.take_file_record.ensures) c.args.perf_file.now

pub returns-in-None : goal.returns-in-None
returns-in-None c =
    let same : c.take_file_record.new.records ≡ c.args.records.now = rw c.in-None.is at c.take_file_record.ensures in
    subst (λ i. TakesRecord i c.args.perf_file.now c.take_next_record.result c.take_next_record.new.records c.take_next_record.new.perf_file) same c.take_next_record.ensures
