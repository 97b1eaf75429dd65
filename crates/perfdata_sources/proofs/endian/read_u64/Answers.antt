use Rattle.std.proofs.Common.{rules}
use Rattle.perfdata_sources.proofs.endian.read_u64.Goals as goal

pub returns-in-LittleEndian : goal.returns-in-LittleEndian
returns-in-LittleEndian c = search rules
