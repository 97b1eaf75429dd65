-- Section FILE of simpleperf: chunks that each contain a file record of the older format.
use Rattle.std.specs.Prelude.{◌≡◌, ℕ, List}
use Rattle.std.specs.IoError.{error_kind}
use Rattle.std.specs.declared.io.ErrorKind.{ErrorKind}
use Rattle.perfdata_sources.specs.Endian.{number_in}
use Rattle.perfdata_sources.specs.declared.endian.Endianness.{Endianness}
use Rattle.perfdata_simpleperf.specs.FileRecord.{FileValue}
use Rattle.perfdata_simpleperf.specs.FileV1.{IsV1, V1Error}
use Rattle.perfdata_simpleperf.specs.Chunks.{ChunkError, AreChunks, FirstChunkError, ReportsChunkError}
use Rattle.perfdata_sections.specs.declared.error.Error.{Error}
use Rattle.perfdata_sections.specs.declared.error.Error.TheVariants.{ParsingSimpleperfFileV1Section}

-- the section's records have these values
abbrev pub IsFileSectionOf : Endianness → List ℕ → List FileValue → Type 0
IsFileSectionOf endian bs vs = AreChunks endian (IsV1 (number_in endian)) bs vs

-- the section's first error
abbrev pub FileSectionError : Endianness → List ℕ → ChunkError ErrorKind → Type 0
FileSectionError endian bs error = FirstChunkError endian (IsV1 (number_in endian)) (V1Error (number_in endian)) bs error

-- an error reports that of a record, by its kind
abbrev pub ReportsV1Error : ErrorKind → Error → Type 0
ReportsV1Error kind (ParsingSimpleperfFileV1Section e) = error_kind e ≡ kind
ReportsV1Error kind _ = ⊥

-- an error reports the section's first error
abbrev pub ReportsFileSectionError : ChunkError ErrorKind → Error → Type 0
ReportsFileSectionError error e = ReportsChunkError ReportsV1Error error e
