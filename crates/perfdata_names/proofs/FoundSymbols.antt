-- A symbol that is found in a table is that of the frame.
use Rattle.std.proofs.Common.{◌≡◌, ℕ, List, Option, None, Some, IfSome, subst, sym}
use Rattle.std.specs.Borrow.{Bor}
use Rattle.code_files.specs.declared.mapped_file.MappedFile.{MappedFile}
use Rattle.code_symbols.specs.SymbolTable.{symbols_of}
use Rattle.code_symbols.specs.Symbols.{IsLastIndex}
use Rattle.perfdata_names.specs.FileSymbols.{IsSymbolBy, IsSymbolOfFrame}
use Rattle.perfdata_names.specs.declared.symbols.SymbolId.{SymbolId}
use Rattle.perfdata_names.specs.declared.symbols.TableId.{TableId}
use Rattle.perfdata_names.specs.declared.symbols.TableId.TheVariants.{Kernel, Code, File, Listed}
use Rattle.perfdata_names.specs.declared.symbols.TableView.{TableView}
use Rattle.perfdata_names.specs.steps.Tables.{IsTable, table_address}
use Rattle.perfdata_profile.specs.declared.resolver.ResolvedFrame.{ResolvedFrame}
use Rattle.perfdata_spaces.specs.Mappings.{mapping_value}
use Rattle.perfdata_spaces.specs.declared.mapping.Mapping.{Mapping}
use Rattle.perfdata_stacks.specs.Frames.{lookup_address}

-- the index that a table gives is that of the frame's symbol
index_found : (files : List MappedFile) (frame : ResolvedFrame) (table : TableId) (view : TableView) (mapping : Bor Mapping) (index : ℕ) → frame.mapping ≡ Some mapping → IsTable files table view
    → IsLastIndex (symbols_of view.symbols.now) (table_address view.base (mapping_value mapping.now) (lookup_address frame.frame)) (Some index) → IsSymbolBy table files frame index
index_found files frame Kernel view mapping index mapped is last = tt
index_found files frame (Code pid number) view mapping index mapped is last = tt
index_found files frame (File file) view mapping index mapped is last = record {
  mapping = mapping;
  mapped = mapped;
  table = view.symbols.now;
  of_file = is.table;
  last = subst (λ base. IsLastIndex (symbols_of view.symbols.now) (table_address base (mapping_value mapping.now) (lookup_address frame.frame)) (Some index)) is.base last;
}
index_found files frame (Listed listed) view mapping index mapped is last = tt

-- so is the id that has it
pub symbol_found : (files : List MappedFile) (frame : ResolvedFrame) (table : TableId) (view : TableView) (mapping : Bor Mapping) (address index : ℕ) (result : Option SymbolId) → frame.mapping ≡ Some mapping
    → IsTable files table view → address ≡ lookup_address frame.frame → IsLastIndex (symbols_of view.symbols.now) (table_address view.base (mapping_value mapping.now) address) (Some index)
    → IfSome result (λ found. found ≡ record { table = table; index = index }) → IfSome result (λ id. IsSymbolOfFrame files frame id)
symbol_found files frame table view mapping address index None mapped is at last same = tt
symbol_found files frame table view mapping address index (Some id) mapped is at last same =
    let here = subst (λ a. IsLastIndex (symbols_of view.symbols.now) (table_address view.base (mapping_value mapping.now) a) (Some index)) at last in
    subst (IsSymbolOfFrame files frame) (sym same) (index_found files frame table view mapping index mapped is here)
