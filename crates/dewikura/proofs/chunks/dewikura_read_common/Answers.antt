use Rattle.std.proofs.Common.{subst}
use Rattle.perfdata_chunks.specs.Common.{ReadsCommon}
use Rattle.dewikura.proofs.chunks.dewikura_read_common.Goals as goal

pub returns : goal.returns
returns c = (c.read_common.result, c.code.ensures, subst (λ e. ReadsCommon e c.args.chunk.now c.args.attrs.now c.args.entry.now c.args.common.now c.read_common.result c.read_common.new.out) c.endian_from_flag.ensures c.read_common.ensures)
