use Rattle.perfdata_jit.proofs.CodeOffsets.{code_is_at_offset}
use Rattle.perfdata_jit.proofs.records.code_is_at_offset.Goals as goal

pub returns : goal.returns
returns c = code_is_at_offset
