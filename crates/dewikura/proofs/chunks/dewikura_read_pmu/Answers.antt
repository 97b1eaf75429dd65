use Rattle.std.proofs.Common.{subst}
use Rattle.perfdata_chunks.specs.Numbers.{ReadsPmu}
use Rattle.dewikura.proofs.chunks.dewikura_read_pmu.Goals as goal

pub returns : goal.returns
returns c = (c.read_pmu.result, c.code.ensures, subst (λ e. ReadsPmu e c.args.section.now c.args.offset c.args.pmu.now c.read_pmu.result c.read_pmu.new.out) c.endian_from_flag.ensures c.read_pmu.ensures)
