use Rattle.perfdata_stack_arrays.proofs.Returned.{returns_records_once}
use Rattle.perfdata_stack_arrays.proofs.laws.records.Goals as goal

pub returns : goal.returns
returns c = returns_records_once
