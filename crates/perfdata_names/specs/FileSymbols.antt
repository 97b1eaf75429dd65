-- The symbols of frames in mapped files.
use Rattle.std.specs.Prelude.{◌≡◌, ℕ, List, Some, IfSome, slice_get}
use Rattle.std.specs.Borrow.{Bor}
use Rattle.code_files.specs.MappedFile.{table_in}
use Rattle.code_files.specs.declared.mapped_file.MappedFile.{MappedFile}
use Rattle.code_symbols.specs.SymbolTable.{names_of, symbols_of}
use Rattle.code_symbols.specs.Symbols.{IsLastIndex, IsName}
use Rattle.code_symbols.specs.declared.table.SymbolTable.{SymbolTable}
use Rattle.perfdata_names.specs.declared.symbols.SymbolId.{SymbolId}
use Rattle.perfdata_names.specs.declared.symbols.TableId.{TableId}
use Rattle.perfdata_names.specs.declared.symbols.TableId.TheVariants.{Kernel, Code, File, Listed}
use Rattle.perfdata_profile.specs.declared.resolver.ResolvedFrame.{ResolvedFrame}
use Rattle.perfdata_spaces.specs.Mappings.{file_offset, mapping_value}
use Rattle.perfdata_spaces.specs.declared.mapping.Mapping.{Mapping}
use Rattle.perfdata_stacks.specs.Frames.{lookup_address}

-- The symbol with this index is, of those of a mapped file, the last one that contains the offset of a frame.
pub record IsSymbolOfFile (files : List MappedFile) (frame : ResolvedFrame) (file symbol : ℕ) : Type 0 where
  pub mapping : Bor Mapping
  pub mapped : frame.mapping ≡ Some mapping
  pub table : SymbolTable
  pub of_file : table_in files file ≡ Some table
  pub last : IsLastIndex (symbols_of table) (file_offset (mapping_value mapping.now) (lookup_address frame.frame)) (Some symbol)

-- The symbol with an index in a table is that of a frame. Which ones other tables give isn't stated.
abbrev pub IsSymbolBy : TableId → List MappedFile → ResolvedFrame → ℕ → Type 0
IsSymbolBy Kernel files frame symbol = Unit {0}
IsSymbolBy (Code pid number) files frame symbol = Unit {0}
IsSymbolBy (File file) files frame symbol = IsSymbolOfFile files frame file symbol
IsSymbolBy (Listed index) files frame symbol = Unit {0}

-- A symbol is that of a frame.
abbrev pub IsSymbolOfFrame : List MappedFile → ResolvedFrame → SymbolId → Type 0
IsSymbolOfFrame files frame id = IsSymbolBy id.table files frame id.index

-- The name of the symbol with an index in a table is that of a mapped file's table. Those in other tables aren't stated.
abbrev pub IsNameBy : TableId → List MappedFile → ℕ → List ℕ → Type 0
IsNameBy Kernel files symbol name = Unit {0}
IsNameBy (Code pid number) files symbol name = Unit {0}
IsNameBy (File file) files symbol name =
    (table : SymbolTable) → table_in files file ≡ Some table → IfSome (slice_get (symbols_of table) symbol) (λ s. IsName (names_of table) s name)
IsNameBy (Listed index) files symbol name = Unit {0}

-- The name of a symbol.
abbrev pub IsNameOfSymbol : List MappedFile → SymbolId → List ℕ → Type 0
IsNameOfSymbol files id name = IsNameBy id.table files id.index name
