-- Section FILE2 of simpleperf: chunks that each contain the message of a file record.
use Rattle.std.specs.Prelude.{◌≡◌, ℕ, List}
use Rattle.perfdata_sources.specs.declared.endian.Endianness.{Endianness}
use Rattle.perfdata_simpleperf.specs.FileRecord.{FileValue}
use Rattle.perfdata_simpleperf.specs.Chunks.{ChunkError, AreChunks, ChunkNeedsMemory, FirstChunkError, ReportsChunkError}
use Rattle.perfdata_simpleperf.specs.Protobuf.Messages.{FileMessageError, FileNeedsMemory}
use Rattle.perfdata_simpleperf.specs.Protobuf.Values.{IsFileRecord}
use Rattle.perfdata_sections.specs.declared.error.Error.{Error}
use Rattle.perfdata_sections.specs.declared.error.Error.TheVariants.{ProtobufParsingSimpleperfFileSection}
use Rattle.perfdata_sections.specs.declared.decode_error.DecodeError.{DecodeError}

-- the section's messages have these values
abbrev pub IsFile2Of : Endianness → List ℕ → List FileValue → Type 0
IsFile2Of endian bs vs = AreChunks endian IsFileRecord bs vs

-- the section's first error
abbrev pub File2Error : Endianness → List ℕ → ChunkError DecodeError → Type 0
File2Error endian bs error = FirstChunkError endian IsFileRecord FileMessageError bs error

-- memory can run out for a message of the section
abbrev pub File2NeedsMemory : Endianness → List ℕ → Type 0
File2NeedsMemory endian bs = ChunkNeedsMemory endian IsFileRecord FileNeedsMemory bs

abbrev pub ReportsMessageError : DecodeError → Error → Type 0
ReportsMessageError f e = e ≡ ProtobufParsingSimpleperfFileSection f

-- an error reports the section's first error
abbrev pub ReportsFile2Error : ChunkError DecodeError → Error → Type 0
ReportsFile2Error error e = ReportsChunkError ReportsMessageError error e
