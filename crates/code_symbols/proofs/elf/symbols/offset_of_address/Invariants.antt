use Rattle.std.proofs.Common.{take}
use Rattle.std.specs.Prelude.{All}
use Rattle.code_symbols.specs.ElfSymbols.{Loads}
use Rattle.code_symbols.proofs.elf.symbols.offset_of_address.Given as goal

abbrev pub invariant-segments : goal.invariant-segments
invariant-segments l = All (λ s. ¬ Loads s l.address) (take l.segment-index l.segments)
