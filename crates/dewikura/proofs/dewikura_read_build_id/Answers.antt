use Rattle.std.proofs.Common.{subst}
use Rattle.perfdata_arrays.specs.BuildIds.{ReadsBuildId}
use Rattle.dewikura.proofs.dewikura_read_build_id.Goals as goal

pub returns : goal.returns
returns c = (c.read_build_id.result, c.code.ensures, subst (λ e. ReadsBuildId e c.args.section.now c.args.offset c.args.entry.now c.read_build_id.result c.read_build_id.new.out) c.endian_from_flag.ensures c.read_build_id.ensures)
