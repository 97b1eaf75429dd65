-- What a mapped file that is open says.
use Rattle.std.specs.Option.{option_and_then}
use Rattle.std.specs.Prelude.{◌≡◌, ℕ, List, Option, None, Some, slice_get}
use Rattle.code_symbols.specs.SymbolTable.{names_of, symbols_of}
use Rattle.code_symbols.specs.Symbols.{IsLastName}
use Rattle.code_symbols.specs.declared.table.SymbolTable.{SymbolTable}
use Rattle.code_files.specs.declared.mapped_file.MappedFile.{MappedFile}
use Rattle.code_files.specs.declared.mapped_files.MappedFiles.{MappedFiles}

-- The symbols of the file, once they are read. Their starts are offsets in it.
abbrev pub table_of : MappedFile → Option SymbolTable
table_of file = file.symbols

-- The name of an offset in a file with these symbols: that of the last symbol that contains it, or none.
abbrev pub IsNameBy : Option SymbolTable → ℕ → Option (List ℕ) → Type 0
IsNameBy None offset name = name ≡ None
IsNameBy (Some table) offset name = IsLastName (names_of table) (symbols_of table) offset name

-- The table of the file with an index, if it is open and its symbols are read.
abbrev pub table_in : List MappedFile → ℕ → Option SymbolTable
table_in files index = option_and_then table_of (slice_get files index)

-- The files that are open.
abbrev pub files_of : MappedFiles → List MappedFile
files_of files = files.files.items
