use Rattle.std.proofs.Common.{refl}
use Rattle.perfdata_chunks.proofs.laws.entries_keep_formats.Goals as goal

pub returns : goal.returns
returns c = λ order names ids d. refl
