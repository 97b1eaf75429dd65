use Rattle.linux_perf_data.proofs.DescribedFiles.{truncated_header_fails, far_header_fails, unknown_magic_fails}
use Rattle.linux_perf_data.proofs.laws.header_errors_come_first.Goals as goal

pub returns : goal.returns
returns c = record { truncated = truncated_header_fails; too_long = far_header_fails; magic = unknown_magic_fails }
