-- The value of a file record of simpleperf, apart from its location in memory.
use Rattle.std.specs.Prelude.{ℕ, List, map, Option, Some, None, string_bytes}
use Rattle.perfdata_simpleperf.specs.declared.simpleperf.file_record.SimpleperfSymbol.{SimpleperfSymbol}
use Rattle.perfdata_simpleperf.specs.declared.simpleperf.file_record.SimpleperfFileRecord.{SimpleperfFileRecord}
use Rattle.perfdata_simpleperf.specs.declared.simpleperf.file_record.SimpleperfTypeSpecificInfo.{SimpleperfTypeSpecificInfo}
use Rattle.perfdata_simpleperf.specs.declared.simpleperf.file_record.SimpleperfTypeSpecificInfo.TheVariants as infos

pub record SymbolValue : Type 0 where
  pub vaddr : ℕ
  pub len : ℕ
  pub name : List ℕ

abbrev pub symbol_value : SimpleperfSymbol → SymbolValue
symbol_value s = record { vaddr = s.vaddr; len = s.len; name = string_bytes s.name }

pub data Info : Type 0 where
  no_info : Info
  dex_file : List ℕ → Info
  elf_file : ℕ → Info
  kernel_module : ℕ → Info

pub record FileValue : Type 0 where
  pub path : List ℕ
  pub type_ : ℕ
  pub min_vaddr : ℕ
  pub symbol : List SymbolValue
  pub info : Info

abbrev pub info_value : Option SimpleperfTypeSpecificInfo → Info
info_value None = no_info
info_value (Some (infos.SimpleperfDexFileInfo d)) = dex_file d.dex_file_offset.items
info_value (Some (infos.ElfFile e)) = elf_file e.file_offset_of_min_vaddr
info_value (Some (infos.KernelModule k)) = kernel_module k.memory_offset_of_min_vaddr

abbrev pub record_value : SimpleperfFileRecord → FileValue
record_value r = record {
  path = string_bytes r.path;
  type_ = r.type_;
  min_vaddr = r.min_vaddr;
  symbol = map symbol_value r.symbol.items;
  info = info_value r.type_specific_msg;
}
