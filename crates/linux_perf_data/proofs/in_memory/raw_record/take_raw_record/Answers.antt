use Rattle.std.proofs.Common.{◌≡◌, ap, subst, ◌∙◌}
use Rattle.linux_perf_data.specs.steps.InMemory.{TakesRawRecord}
use Rattle.linux_perf_data.proofs.in_memory.raw_record.take_raw_record.Goals as goal

pub returns-in-Some-clause-raw_record : goal.returns-in-Some-clause-raw_record
returns-in-Some-clause-raw_record c = rw c.in-Some.is at c.take_whole_record.ensures.whole_record

pub take_record_parts-requires : goal.take_record_parts-requires
take_record_parts-requires c = ap (λ v. v.items) c.take_whole_record.ensures.same_buffer ∙ c.requires

pub returns-in-None-clause-raw_record : goal.returns-in-None-clause-raw_record
returns-in-None-clause-raw_record c =
    let same : c.take_whole_record.new.records ≡ c.args.records.now = rw c.in-None.is at c.take_whole_record.ensures.whole_record in
    subst (λ i. TakesRawRecord i c.take_record_parts.result c.take_record_parts.new.records) same c.take_record_parts.ensures.raw_record
