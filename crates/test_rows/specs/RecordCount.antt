-- The meaning of a count of records, and of its error.
use Rattle.std.specs.Prelude.{◌≡◌, ◌≢◌, ◌⊎◌, ℕ, List, length}
use Rattle.perfdata_sources.specs.Source.{at_start}
use Rattle.perfdata_sources.specs.declared.endian.Endianness.{Endianness}
use Rattle.perfdata_base.specs.declared.header.PerfHeader.{PerfHeader}
use Rattle.perfdata_sections.specs.declared.error.Error.{Error}
use Rattle.perfdata_sections.specs.declared.error.Error.TheVariants.{Memory}
use Rattle.linux_perf_data.specs.declared.perf_file.PerfFile.{PerfFile}
use Rattle.linux_perf_data.specs.FileOpening.{IsFileError}
use Rattle.linux_perf_data.specs.FileReading.{FileReadToError}
use Rattle.linux_perf_data.specs.Layout.{RecordView, ends_complete}
use Rattle.linux_perf_data.specs.OpenedFile.{DescribesFile, FileRecords}
use Rattle.linux_perf_data.specs.PerfFile.{endian_of_file, attributes_of_file}
use Rattle.linux_perf_data.specs.PipeOpening.{IsPipeError}
use Rattle.linux_perf_data.specs.PipeReading.{IsCompletePipe, PipeReadToError}

-- the bytes are a file whose layout is complete and has `count` records
abbrev pub HasRecordCount : List ℕ → ℕ → Type 0
HasRecordCount bytes count = (file : PerfFile) × ((header : PerfHeader) × DescribesFile (at_start bytes) header file
    × ((records : List RecordView) × FileRecords (at_start bytes) (endian_of_file file) header (attributes_of_file file) records ends_complete
    × (count ≡ length records)))

-- the bytes are a pipe whose layout is complete and has `count` records after the opening
abbrev pub HasPipeRecordCount : List ℕ → ℕ → Type 0
HasPipeRecordCount bytes count = (order : Endianness)
    × ((raw_records : List (List ℕ)) × ((records : List RecordView) × IsCompletePipe order raw_records records bytes × (count ≡ length records)))

-- unless memory ran out, the bytes are no file that opens, or the layout of the file has this error
abbrev pub HasFileError : List ℕ → Error → Type 0
HasFileError bytes e =
    e ≢ Memory → IsFileError (at_start bytes) e ⊎ ((file : PerfFile) × ((records : List RecordView) × FileReadToError (at_start bytes) file records e))

-- unless memory ran out, the bytes are no pipe that opens, or the layout of the pipe has this error
abbrev pub HasPipeError : List ℕ → Error → Type 0
HasPipeError bytes e =
    e ≢ Memory → IsPipeError bytes e ⊎ ((order : Endianness) × ((file : PerfFile) × ((records : List RecordView) × PipeReadToError order bytes records file e)))
