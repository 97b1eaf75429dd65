use Rattle.linux_perf_data.proofs.FileErrorUniqueness as file
use Rattle.linux_perf_data.proofs.PipeErrorUniqueness as pipe
use Rattle.linux_perf_data.proofs.laws.opening_error_is_unique.Goals as goal

pub returns : goal.returns
returns c = record {
  file = λ p e f x y. file.opening_error_is_unique p e f x y;
  pipe = λ bytes e f x y. pipe.opening_error_is_unique bytes e f x y;
}
