use Rattle.linux_perf_data.proofs.MetadataAccumulation.{holds_none, holds_more, event_desc_stays_valid}
use Rattle.linux_perf_data.proofs.laws.metadata_accumulates.Goals as goal

pub returns-clause-none : goal.returns-clause-none
returns-clause-none c = holds_none

pub returns-clause-more : goal.returns-clause-more
returns-clause-more c = holds_more

pub returns-clause-names : goal.returns-clause-names
returns-clause-names c = event_desc_stays_valid
