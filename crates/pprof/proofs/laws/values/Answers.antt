use Rattle.pprof.proofs.Sampling.{padded_length}
use Rattle.pprof.proofs.laws.values.Goals as goal

pub returns : goal.returns
returns c = λ type_count row. padded_length type_count row.values
