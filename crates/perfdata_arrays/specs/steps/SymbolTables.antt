-- Steps of private functions: the results for simpleperf's symbol tables: files with their symbols, names and DEX offsets.
use Rattle.std.specs.Prelude.{◌≡◌, ◌⊎◌, ℕ, ◌^◌, ◌≤◌, List, length, map, Option, None, Some, Result, Ok, Err, Vec}
use Rattle.std.specs.declared.alloc.Global.{Global}
use Rattle.perfdata_sources.specs.declared.endian.Endianness.{Endianness}
use Rattle.perfdata_sections.specs.declared.error.Error.{Error}
use Rattle.perfdata_sections.specs.declared.error.Error.TheVariants.{Memory}
use Rattle.perfdata_simpleperf.specs.FileRecord.{FileValue, SymbolValue, record_value}
use Rattle.perfdata_simpleperf.specs.declared.simpleperf.file_record.SimpleperfFileRecord.{SimpleperfFileRecord}
use Rattle.perfdata_arrays.specs.declared.symbol_tables.SymbolTotals.{SymbolTotals}
use Rattle.perfdata_arrays.specs.SymbolTables.{IsSymbolSection, SymbolSectionError, symbol_names, totals_after, ExceedsU64}

-- the result of parsing the section; memory may run out at any file
abbrev pub ParsesSymbolTables : ℕ → Endianness → List ℕ → Result (Vec SimpleperfFileRecord Global) Error → Type 0
ParsesSymbolTables feature endian section (Ok v) = IsSymbolSection feature endian section (map record_value v.items)
ParsesSymbolTables feature endian section (Err e) = (e ≡ Memory) ⊎ SymbolSectionError feature endian section e

-- ---- totals that fit

-- the size of the names, or `None` if it doesn't fit in 64 bits
abbrev pub IsCheckedNamesSize : List SymbolValue → Option ℕ → Type 0
IsCheckedNamesSize symbols (Some size) = size ≡ length (symbol_names symbols)
IsCheckedNamesSize symbols None = 2 ^ 64 ≤ length (symbol_names symbols)

-- the totals with one more file, or `None` if one of them doesn't fit in 64 bits
abbrev pub AreNextTotals : SymbolTotals → FileValue → Option SymbolTotals → Type 0
AreNextTotals t v (Some next) = next ≡ totals_after t v
AreNextTotals t v None = ExceedsU64 t v
