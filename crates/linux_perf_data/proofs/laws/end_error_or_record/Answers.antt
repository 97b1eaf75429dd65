use Rattle.linux_perf_data.proofs.RecordsOrErrors.{error_one, no_error, end_error_or_record}
use Rattle.linux_perf_data.proofs.laws.end_error_or_record.Goals as goal

pub returns : goal.returns
returns c = record {
  one_error = λ order bound offset attrs rest f g begins x y. error_one order bound offset attrs rest f g begins x y;
  no_error_at_record = λ order bound offset attrs rest p f begins starts_with_record is rule fault. no_error order bound offset attrs rest p f begins starts_with_record is rule fault;
  end_error_or_record = λ order bound offset attrs rest rule. end_error_or_record order bound offset attrs rest rule;
}
