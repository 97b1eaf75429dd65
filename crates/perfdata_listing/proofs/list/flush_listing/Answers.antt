use Rattle.std.proofs.Common.{rules}
use Rattle.perfdata_listing.proofs.list.flush_listing.Goals as goal

pub returns-else-has_failed-clause-on_error : goal.returns-else-has_failed-clause-on_error
returns-else-has_failed-clause-on_error g c = search rules

pub returns-else-has_failed-clause-flushed : goal.returns-else-has_failed-clause-flushed
returns-else-has_failed-clause-flushed g c = search rules

pub returns-in-Err-clause-flushed : goal.returns-in-Err-clause-flushed
returns-in-Err-clause-flushed g c = search rules
