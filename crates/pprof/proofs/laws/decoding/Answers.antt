use Rattle.pprof.proofs.Decoding.{decoding}
use Rattle.pprof.proofs.laws.decoding.Goals as goal

pub returns : goal.returns
returns c = decoding
