use Rattle.std.proofs.Common.{rules}
use Rattle.perfdata_sources.proofs.attr.AttrFlagsFlags.bits.Goals as goal

pub returns : goal.returns
returns c = search rules
