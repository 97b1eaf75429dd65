use Rattle.std.proofs.Common.{◌≤◌, ◌-◌, length}
use Rattle.std.specs.Prelude.{All}
use Rattle.code_symbols.specs.PltEntries.{IsOfFile}
use Rattle.code_symbols.proofs.elf.plt.PltContext.all_relocations.Given as goal

abbrev pub invariant-relocations : goal.invariant-relocations
invariant-relocations l = record {
  within : l.at ≤ length l.self.relocations.now;
  each : All (IsOfFile l.self) l.relocations.items;
}

abbrev pub decreases-relocations : goal.decreases-relocations
decreases-relocations l = length l.self.relocations.now - l.at
