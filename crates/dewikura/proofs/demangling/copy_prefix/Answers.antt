use Rattle.std.proofs.Common.{ap, ◌∙◌, ◌++◌, drop}
use Rattle.perfdata_arrays.proofs.OverwriteLemmas.{take-with_prefix}
use Rattle.dewikura.proofs.demangling.copy_prefix.Goals as goal

pub returns : goal.returns
returns c = ap (λ l. l ++ drop c.min-count.result c.args.array.now) c.copy_from_slice.ensures.after ∙ take-with_prefix c.min-count.result c.args.bytes.now c.args.array.now c.min-count.ensures
