use Rattle.std.proofs.Common.{refl}
use Rattle.perfdata_arrays.proofs.metadata.file_metadata.Goals as goal

pub returns : goal.returns
returns c = (refl, (c.in_ok-reader.ensures.0.header, c.in_ok-reader.ensures.0.describes))
