use Rattle.std.proofs.Common.{rules}
use Rattle.linux_perf_data.proofs.perf_file.PerfFile.simpleperf_symbol_tables.Goals as goal

pub returns-in-Ok-parse_file_section : goal.returns-in-Ok-parse_file_section
returns-in-Ok-parse_file_section c = search rules

pub returns-in-Err-parse_file_section : goal.returns-in-Err-parse_file_section
returns-in-Err-parse_file_section c = search rules
