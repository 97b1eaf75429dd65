-- The contents of simpleperf's feature sections.
use Rattle.std.specs.Prelude.{◌≡◌, ◌⊎◌, ℕ, List, map, Option, None, Some, Result, Ok, Err, Vec}
use Rattle.std.specs.declared.alloc.Global.{Global}
use Rattle.std.specs.declared.io.ErrorKind.{ErrorKind}
use Rattle.perfdata_sources.specs.declared.endian.Endianness.{Endianness}
use Rattle.perfdata_simpleperf.specs.FileRecord.{record_value}
use Rattle.perfdata_simpleperf.specs.File2.{IsFile2Of, File2Error, ReportsFile2Error}
use Rattle.perfdata_simpleperf.specs.FileSection.{IsFileSectionOf, FileSectionError, ReportsFileSectionError}
use Rattle.perfdata_simpleperf.specs.Chunks.{ChunkError}
use Rattle.perfdata_sections.specs.declared.error.Error.{Error}
use Rattle.perfdata_sections.specs.declared.error.Error.TheVariants.{Memory}
use Rattle.perfdata_sections.specs.declared.decode_error.DecodeError.{DecodeError}
use Rattle.perfdata_simpleperf.specs.declared.simpleperf.file_record.SimpleperfFileRecord.{SimpleperfFileRecord}
use Rattle.linux_perf_data.specs.Values.{AnswersOf}

module _ (order : Endianness) where
  -- Parses the section FILE2. Memory may run out at any record.
  abbrev pub ParsesFile2Section : List ℕ → Result (Vec SimpleperfFileRecord Global) Error → Type 0
  ParsesFile2Section xs (Ok v) = IsFile2Of order xs (map record_value v.items)
  ParsesFile2Section xs (Err e) = (e ≡ Memory) ⊎ ((f : ChunkError DecodeError) × File2Error order xs f × ReportsFile2Error f e)

  -- Parses the section FILE. Memory may run out at any record.
  abbrev pub ParsesFileSection : List ℕ → Result (Vec SimpleperfFileRecord Global) Error → Type 0
  ParsesFileSection xs (Ok v) = IsFileSectionOf order xs (map record_value v.items)
  ParsesFileSection xs (Err e) = (e ≡ Memory) ⊎ ((f : ChunkError ErrorKind) × FileSectionError order xs f × ReportsFileSectionError f e)

  -- The symbol tables of the section FILE2 if it is present, else those of the section FILE.
  abbrev pub AnswersSymbolTables : Option (List ℕ) → Option (List ℕ) → Result (Option (Vec SimpleperfFileRecord Global)) Error → Type 0
  AnswersSymbolTables (Some xs) old result = AnswersOf ParsesFile2Section (Some xs) result
  AnswersSymbolTables None old result = AnswersOf ParsesFileSection old result
