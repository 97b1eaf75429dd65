use Rattle.std.proofs.Common.{◌≡◌}
use Rattle.code_symbols.specs.PltEntries.{fixed_entries}
use Rattle.code_symbols.proofs.elf.plt.PltLayout.entries.Given as goal

abbrev pub invariant-entries : goal.invariant-entries
invariant-entries l = l.entries.items ≡ fixed_entries l.self l.index
