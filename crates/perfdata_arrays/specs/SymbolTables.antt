-- The results for simpleperf's symbol tables: files with their symbols, names and DEX offsets.
use Rattle.std.specs.Prelude.{◌≡◌, ◌≢◌, ◌⊎◌, ℕ, ◌+◌, ◌^◌, ◌≤◌, List, [], ◌∷◌, ◌++◌, length, flat_map}
use Rattle.std.specs.declared.io.ErrorKind.{ErrorKind}
use Rattle.perfdata_sources.specs.declared.endian.Endianness.{Endianness}
use Rattle.perfdata_sections.specs.declared.decode_error.DecodeError.{DecodeError}
use Rattle.perfdata_sections.specs.declared.error.Error.{Error}
use Rattle.perfdata_simpleperf.specs.Chunks.{ChunkError}
use Rattle.perfdata_simpleperf.specs.File2.{IsFile2Of, File2Error, ReportsFile2Error}
use Rattle.perfdata_simpleperf.specs.FileRecord.{FileValue, Info, SymbolValue, dex_file, elf_file, kernel_module, no_info}
use Rattle.perfdata_simpleperf.specs.FileSection.{IsFileSectionOf, FileSectionError, ReportsFileSectionError}
use Rattle.linux_perf_data.specs.FeatureNumbers.{simpleperf_file2}
use Rattle.linux_perf_data.specs.RecordEntries.{with_prefix}
use Rattle.perfdata_arrays.specs.Records.{FailsWithStatus}
use Rattle.perfdata_arrays.specs.declared.status.Status.TheVariants.{OutOfMemory, Success}
use Rattle.perfdata_arrays.specs.declared.symbol_tables.Symbol.{Symbol}
use Rattle.perfdata_arrays.specs.declared.symbol_tables.SymbolFile.{SymbolFile}
use Rattle.perfdata_arrays.specs.declared.symbol_tables.SymbolTablesResult.{SymbolTablesResult}
use Rattle.perfdata_arrays.specs.declared.symbol_tables.SymbolTotals.{SymbolTotals}

-- ---- the section

-- The section contains these files. It is section FILE2 if the number is that of its feature, and otherwise section FILE.
abbrev pub IsSymbolSection : ℕ → Endianness → List ℕ → List FileValue → Type 0
IsSymbolSection feature endian section vs =
    ((feature ≡ simpleperf_file2) × IsFile2Of endian section vs) ⊎ ((feature ≢ simpleperf_file2) × IsFileSectionOf endian section vs)

-- an error reports the section's first error
abbrev pub SymbolSectionError : ℕ → Endianness → List ℕ → Error → Type 0
SymbolSectionError feature endian section e =
    ((feature ≡ simpleperf_file2) × ((f : ChunkError DecodeError) × File2Error endian section f × ReportsFile2Error f e))
    ⊎ ((feature ≢ simpleperf_file2) × ((f : ChunkError ErrorKind) × FileSectionError endian section f × ReportsFileSectionError f e))

-- ---- entries

-- the type of file that the offsets are for, and 0 without offsets
abbrev pub info_type_of : Info → ℕ
info_type_of no_info = 0
info_type_of (kernel_module offset) = 1
info_type_of (elf_file offset) = 2
info_type_of (dex_file offsets) = 3

-- the offset of the bytes at the lowest address, or 0
abbrev pub min_vaddr_offset_of : Info → ℕ
min_vaddr_offset_of no_info = 0
min_vaddr_offset_of (kernel_module offset) = offset
min_vaddr_offset_of (elf_file offset) = offset
min_vaddr_offset_of (dex_file offsets) = 0

-- the offsets of the DEX files
abbrev pub dex_offsets_in : Info → List ℕ
dex_offsets_in no_info = []
dex_offsets_in (kernel_module offset) = []
dex_offsets_in (elf_file offset) = []
dex_offsets_in (dex_file offsets) = offsets

abbrev pub dex_offsets_of : FileValue → List ℕ
dex_offsets_of v = dex_offsets_in v.info

-- the names of symbols, and those of a file: its path and the names of its symbols
abbrev pub symbol_names : List SymbolValue → List ℕ
symbol_names symbols = flat_map (λ s. s.name) symbols

abbrev pub file_names : FileValue → List ℕ
file_names v = v.path ++ symbol_names v.symbol

-- the entry of a symbol whose name is at an offset
abbrev pub symbol_entry_at : ℕ → SymbolValue → Symbol
symbol_entry_at offset s = record { vaddr = s.vaddr; size = s.len; name_offset = offset; name_size = length s.name }

-- the entries of symbols whose names follow one another
abbrev pub symbol_entries_at : ℕ → List SymbolValue → List Symbol
symbol_entries_at offset [] = []
symbol_entries_at offset (s ∷ symbols) = symbol_entry_at offset s ∷ symbol_entries_at (offset + length s.name) symbols

abbrev pub zero_totals : SymbolTotals
zero_totals = record { file_count = 0; symbol_count = 0; names_size = 0; dex_offset_count = 0 }

-- the totals with one more file
abbrev pub totals_after : SymbolTotals → FileValue → SymbolTotals
totals_after t v = record {
  file_count = t.file_count + 1;
  symbol_count = t.symbol_count + length v.symbol;
  names_size = t.names_size + length (file_names v);
  dex_offset_count = t.dex_offset_count + length (dex_offsets_of v);
}

-- the totals with more files
abbrev pub totals_after_all : SymbolTotals → List FileValue → SymbolTotals
totals_after_all t [] = t
totals_after_all t (v ∷ vs) = totals_after_all (totals_after t v) vs

-- the entry of a file after files with these totals
abbrev pub file_entry_at : SymbolTotals → FileValue → SymbolFile
file_entry_at t v = record {
  path_offset = t.names_size;
  path_size = length v.path;
  min_vaddr = v.min_vaddr;
  symbols_start = t.symbol_count;
  symbols_count = length v.symbol;
  min_vaddr_offset = min_vaddr_offset_of v.info;
  dex_offsets_start = t.dex_offset_count;
  dex_offsets_count = length (dex_offsets_of v);
  type_ = v.type_;
  info_type = info_type_of v.info;
}

-- the entries of files, and those of their symbols
abbrev pub file_entries_at : SymbolTotals → List FileValue → List SymbolFile
file_entries_at t [] = []
file_entries_at t (v ∷ vs) = file_entry_at t v ∷ file_entries_at (totals_after t v) vs

abbrev pub all_symbols_at : SymbolTotals → List FileValue → List Symbol
all_symbols_at t [] = []
all_symbols_at t (v ∷ vs) = symbol_entries_at (t.names_size + length v.path) v.symbol ++ all_symbols_at (totals_after t v) vs

-- a total with one more file doesn't fit in 64 bits
abbrev pub ExceedsU64 : SymbolTotals → FileValue → Type 0
ExceedsU64 t v =
    (2 ^ 64 ≤ (totals_after t v).file_count)
    ⊎ ((2 ^ 64 ≤ (totals_after t v).symbol_count) ⊎ ((2 ^ 64 ≤ (totals_after t v).names_size) ⊎ (2 ^ 64 ≤ (totals_after t v).dex_offset_count)))

-- ---- the arrays

-- the arrays for files, symbols, names and DEX offsets
pub record SymbolArrays : Type 0 where
  pub files : List SymbolFile
  pub symbols : List Symbol
  pub names : List ℕ
  pub offsets : List ℕ

-- These files are written, and what they contain, each as a prefix of its array.
pub record WritesFiles (vs : List FileValue) (old new : SymbolArrays) : Type 0 where
  pub files_written : new.files ≡ with_prefix (file_entries_at zero_totals vs) old.files
  pub symbols_written : new.symbols ≡ with_prefix (all_symbols_at zero_totals vs) old.symbols
  pub names_written : new.names ≡ with_prefix (flat_map file_names vs) old.names
  pub offsets_written : new.offsets ≡ with_prefix (flat_map dex_offsets_of vs) old.offsets

-- These files are written and counted. Either they are all; or they are a prefix, and a total with the next file doesn't fit in 64
-- bits. No memory can contain so much.
pub record WritesFilesOrPrefix (all : List FileValue) (old : SymbolArrays) (result : SymbolTablesResult) (new : SymbolArrays) : Type 0 where
  pub written : List FileValue
  pub unwritten : List FileValue
  pub split : all ≡ written ++ unwritten
  pub totals : result.totals ≡ totals_after_all zero_totals written
  pub writes : WritesFiles written old new
  pub ends : ((unwritten ≡ []) × (result.status ≡ Success))
      ⊎ ((result.status ≡ OutOfMemory) × ((v : FileValue) × ((rest : List FileValue) × (unwritten ≡ v ∷ rest) × ExceedsU64 result.totals v)))

-- The result for the files of a section. If the section has an error, nothing is written. The files of a valid section are written,
-- and no others, unless memory runs out.
pub record ReadsSymbolTables (feature : ℕ) (endian : Endianness) (section : List ℕ) (old : SymbolArrays) (result : SymbolTablesResult)
    (new : SymbolArrays) : Type 0 where
  pub outcome : ((vs : List FileValue) × IsSymbolSection feature endian section vs × WritesFilesOrPrefix vs old result new)
      ⊎ (FailsWithStatus result.status (SymbolSectionError feature endian section) × (result.totals ≡ zero_totals) × (new ≡ old))
  pub valid : (vs : List FileValue) → IsSymbolSection feature endian section vs → WritesFilesOrPrefix vs old result new ⊎ (result.status ≡ OutOfMemory)
