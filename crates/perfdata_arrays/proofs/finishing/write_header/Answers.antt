use Rattle.perfdata_arrays.proofs.WrittenLemmas.{writes_then}
use Rattle.perfdata_arrays.proofs.finishing.write_header.Goals as goal

pub returns : goal.returns
returns c =
    writes_then c.push.ensures (writes_then c.push_number.ensures (writes_then c.write_place.ensures
    (writes_then c.push_number-2.ensures (writes_then c.push_number-3.ensures (writes_then c.push_number-4.ensures c.push_number-5.ensures)))))
