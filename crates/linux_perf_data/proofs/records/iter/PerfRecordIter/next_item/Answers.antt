use Rattle.std.proofs.Common.{rules}
use Rattle.std.proofs.lemmas.Result.{err_from_is_err_and}
use Rattle.linux_perf_data.proofs.NamedErrors.{record_error}
use Rattle.linux_perf_data.proofs.records.iter.PerfRecordIter.next_item.Goals as goal

pub returns-in-Some-Record : goal.returns-in-Some-Record
returns-in-Some-Record g c = search rules

pub returns-in-Some-RoundEnd : goal.returns-in-Some-RoundEnd
returns-in-Some-RoundEnd g c = search rules

pub returns-in-None : goal.returns-in-None
returns-in-None g c = search rules

pub returns-in_err-identified : goal.returns-in_err-identified
returns-in_err-identified g c =
    let p = err_from_is_err_and c.from_residual.result c.from_residual.ensures.1 in (
      search rules,
      record {
        named_error = rw (p.1, p.2) (record_error g.R.Source.state c.args.self.now c.advance_item.new.self c.args.perf_file.now c.in_err-identified.field-0.0 c.advance_item.new.perf_file c.in_err-identified.ensures.advances.0);
        after_borrow = tt;
      },
    )
