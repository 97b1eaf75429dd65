-- Tables of symbols, and the address of one for an address of a mapping.
use Rattle.std.specs.Prelude.{◌≡◌, ℕ, ◌+◌, ◌-◌, ◌%◌, ◌^◌, List, None, Some}
use Rattle.code_files.specs.MappedFile.{table_in}
use Rattle.code_files.specs.declared.mapped_file.MappedFile.{MappedFile}
use Rattle.perfdata_names.specs.declared.address_base.AddressBase.{AddressBase}
use Rattle.perfdata_names.specs.declared.address_base.AddressBase.TheVariants as bases
use Rattle.perfdata_names.specs.declared.symbols.TableId.{TableId}
use Rattle.perfdata_names.specs.declared.symbols.TableId.TheVariants.{Kernel, Code, File, Listed}
use Rattle.perfdata_names.specs.declared.symbols.TableView.{TableView}
use Rattle.perfdata_spaces.specs.Mappings.{MappingValue, file_offset}

-- The address in a table for an address of a mapping, modulo 2^64.
abbrev pub table_address : AddressBase → MappingValue → ℕ → ℕ
table_address bases.File mapping address = file_offset mapping address
table_address bases.Mapping mapping address = (address + (2 ^ 64 - mapping.start)) % 2 ^ 64
table_address bases.Process mapping address = address

-- A table is that of the mapped file with an index. Its symbols start at offsets in the file.
pub record IsFileTable (files : List MappedFile) (index : ℕ) (view : TableView) : Type 0 where
  pub table : table_in files index ≡ Some view.symbols.now
  pub base : view.base ≡ bases.File

-- There is no table with an id: the mapped file isn't open, or its symbols aren't read. When others aren't there isn't stated.
abbrev pub IsMissing : List MappedFile → TableId → Type 0
IsMissing files Kernel = Unit {0}
IsMissing files (Code pid number) = Unit {0}
IsMissing files (File index) = table_in files index ≡ None
IsMissing files (Listed index) = Unit {0}

-- A table with an id. Which others there are isn't stated.
abbrev pub IsTable : List MappedFile → TableId → TableView → Type 0
IsTable files Kernel view = Unit {0}
IsTable files (Code pid number) view = Unit {0}
IsTable files (File index) view = IsFileTable files index view
IsTable files (Listed index) view = Unit {0}
