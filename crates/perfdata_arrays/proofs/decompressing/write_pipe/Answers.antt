use Rattle.perfdata_arrays.proofs.WrittenLemmas.{writes_none}
use Rattle.perfdata_arrays.proofs.decompressing.write_pipe.Goals as goal

pub returns-in_err-bytes : goal.returns-in_err-bytes
returns-in_err-bytes c = writes_none
