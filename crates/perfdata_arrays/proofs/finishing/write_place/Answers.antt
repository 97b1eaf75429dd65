use Rattle.perfdata_arrays.proofs.WrittenLemmas.{writes_then}
use Rattle.perfdata_arrays.proofs.finishing.write_place.Goals as goal

pub returns : goal.returns
returns c = writes_then c.push_number.ensures c.push_number-2.ensures
