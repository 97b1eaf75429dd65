use Rattle.std.proofs.Common.{rules}
use Rattle.linux_perf_data.proofs.metadata_records.apply_feature.Goals as goal

pub returns : goal.returns
returns c = search rules

pub returns-then-eq : goal.returns-then-eq
returns-then-eq c = search rules
