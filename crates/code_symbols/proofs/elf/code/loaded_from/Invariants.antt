use Rattle.std.proofs.Common.{take}
use Rattle.std.specs.Prelude.{All}
use Rattle.code_symbols.specs.LoadedBytes.{HasBytesAt}
use Rattle.code_symbols.proofs.elf.code.loaded_from.Given as goal

abbrev pub invariant-segments : goal.invariant-segments
invariant-segments l = All (λ s. ¬ HasBytesAt s l.address) (take l.segment-index l.segments)
