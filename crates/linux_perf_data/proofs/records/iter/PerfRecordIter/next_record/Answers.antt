use Rattle.std.proofs.Common.{rules}
use Rattle.linux_perf_data.proofs.NamedErrors.{record_error}
use Rattle.linux_perf_data.proofs.records.iter.PerfRecordIter.next_record.Goals as goal

pub returns-in-Ok-Some : goal.returns-in-Ok-Some
returns-in-Ok-Some g c = search rules

pub returns-in-Err : goal.returns-in-Err
returns-in-Err g c = (search rules, record { named_error = record_error g.R.Source.state c.args.self.now c.advance.new.self c.args.perf_file.now c.in-Err.error c.advance.new.perf_file c.in-Err.ensures.advances; after_borrow = tt })

pub returns-in-Ok-None : goal.returns-in-Ok-None
returns-in-Ok-None g c = search rules
