use Rattle.std.proofs.Common.{◌≡◌, ◌≤◌, ◌-◌, ◌*◌, length}
use Rattle.code_symbols.specs.ElfSymbols.{AddsEntries, AddsFirst}
use Rattle.code_symbols.proofs.elf.symbols.add_symbols.Given as goal

abbrev pub invariant-entries : goal.invariant-entries
invariant-entries l = record {
  within : l.at ≤ length l.entries;
  counted : l.at ≡ l.index * l.size;
  added : AddsEntries l.context l.entries l.entry_size l.fn.symbols.items l.symbols.items;
  first : AddsFirst l.context l.entries l.entry_size l.index l.fn.symbols.items l.symbols.items;
}

abbrev pub decreases-entries : goal.decreases-entries
decreases-entries l = length l.entries - l.at
