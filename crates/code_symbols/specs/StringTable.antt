-- The bytes of a string table.
use Rattle.std.specs.Prelude.{ℕ, List}
use Rattle.code_symbols.specs.declared.elf.strings.Strings.{Strings}

abbrev pub bytes_of : Strings → List ℕ
bytes_of s = s.bytes.items
