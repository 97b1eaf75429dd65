use Rattle.std.proofs.Common.{subst}
use Rattle.perfdata_arrays.specs.Strings.{ReadsString}
use Rattle.dewikura.proofs.dewikura_read_string.Goals as goal

pub returns : goal.returns
returns c = (c.find_string.result, c.code.ensures, subst (λ e. ReadsString e c.args.section.now c.args.offset c.args.entry.now c.find_string.result c.find_string.new.out) c.endian_from_flag.ensures c.find_string.ensures)
