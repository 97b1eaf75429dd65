use Rattle.std.proofs.Common.{◌≡◌, filter, take}
use Rattle.code_symbols.specs.PltEntries.{has_entry}
use Rattle.code_symbols.proofs.elf.plt.with_kinds.Given as goal

abbrev pub invariant-relocations : goal.invariant-relocations
invariant-relocations l = l.found.items ≡ filter (λ r. has_entry l.are_all r.kind) (take l.relocation-index l.relocations)
