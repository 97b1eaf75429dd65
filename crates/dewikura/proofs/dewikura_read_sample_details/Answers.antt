use Rattle.std.proofs.Common.{subst}
use Rattle.perfdata_arrays.specs.Details.{ReadsDetails, format_of_attr}
use Rattle.dewikura.proofs.dewikura_read_sample_details.Goals as goal

pub returns : goal.returns
returns c = (c.read_details.result, c.code.ensures, subst (λ e. ReadsDetails (format_of_attr e c.args.attr.now) c.args.body.now c.args.details.now c.read_details.result c.read_details.new.details) c.endian_from_flag.ensures c.read_details.ensures)
