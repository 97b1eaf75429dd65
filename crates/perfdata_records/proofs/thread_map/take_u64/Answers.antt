use Rattle.std.proofs.Common.{ap, ◌∙◌, arith}
use Rattle.perfdata_sources.specs.Endian.{number_in}
use Rattle.perfdata_sources.specs.Raw.{bytes_of}
use Rattle.perfdata_sources.proofs.Numbers.{number_take}
use Rattle.perfdata_records.proofs.thread_map.take_u64.Goals as goal

pub returns-clause-value : goal.returns-clause-value
returns-clause-value c = c.read_u64.ensures ∙ ap (number_in c.args.endian 8) c.in_ok-read_exact.ensures.read ∙ number_take c.args.endian 8 8 (bytes_of c.args.bytes.now) (omega arith)
