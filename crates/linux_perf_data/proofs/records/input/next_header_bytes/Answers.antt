use Rattle.std.proofs.Common.{rules}
use Rattle.linux_perf_data.proofs.records.input.next_header_bytes.Goals as goal

pub returns-in-Pipe-Some-clause-pending_header : goal.returns-in-Pipe-Some-clause-pending_header
returns-in-Pipe-Some-clause-pending_header g c = search rules

pub returns-in-Pipe-Some-clause-reads : goal.returns-in-Pipe-Some-clause-reads
returns-in-Pipe-Some-clause-reads g c = search rules
