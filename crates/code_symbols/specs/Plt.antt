-- The entries of procedure linkage tables.
use Rattle.std.specs.Prelude.{List}
use Rattle.std.specs.List.Sorted.{IsNonDecreasingBy}
use Rattle.code_symbols.specs.declared.elf.plt.Relocation.{Relocation}

-- in the order of the addresses of their pointers
abbrev pub IsInPointerOrder : List Relocation → Type 0
IsInPointerOrder relocations = IsNonDecreasingBy (λ r. r.offset) relocations
