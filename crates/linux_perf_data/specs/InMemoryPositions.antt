-- Positions among the records of a file in memory, and readers that start at them.
use Rattle.std.specs.Prelude.{◌≡◌, ℕ, ◌+◌, ◌^◌, ◌<◌, List, drop, min, Result, Ok, Err, Some}
use Rattle.perfdata_sources.specs.Source.{at_start, memory_source_at}
use Rattle.perfdata_sources.specs.declared.endian.Endianness.{Endianness}
use Rattle.perfdata_base.specs.declared.header.PerfHeader.{PerfHeader}
use Rattle.perfdata_sections.specs.declared.error.Error.{Error}
use Rattle.linux_perf_data.specs.declared.in_memory.InMemoryReader.{InMemoryReader}
use Rattle.linux_perf_data.specs.declared.in_memory.InMemoryRecords.{InMemoryRecords}
use Rattle.linux_perf_data.specs.declared.in_memory.position.RecordPosition.{RecordPosition}
use Rattle.linux_perf_data.specs.declared.perf_file.PerfFile.{PerfFile}
use Rattle.linux_perf_data.specs.declared.records.iter.Stage.TheVariants.{Running}
use Rattle.linux_perf_data.specs.Attribute.{Attribute}
use Rattle.linux_perf_data.specs.AttributeLookup.{Represents}
use Rattle.linux_perf_data.specs.InMemory.{memory_state, MemoryIter}
use Rattle.linux_perf_data.specs.InMemoryReading.{input_of}
use Rattle.linux_perf_data.specs.Iter.{iter_source_state, section_size_of}
use Rattle.linux_perf_data.specs.Layout.{RecordView, LayoutEnd, RemainingRecords}
use Rattle.linux_perf_data.specs.OpenedFile.{DescribesFile, FileParseError}
use Rattle.linux_perf_data.specs.PerfFile.{attributes_of_file, endian_of_file}

-- The position of the next record, or of the markers before it.
abbrev pub position_of : InMemoryRecords → RecordPosition
position_of records = record { offset = records.records.offset; round = records.records.round }

-- The number of markers before a position. There are fewer of them than bytes.
abbrev pub round_at : RecordPosition → ℕ
round_at position = min position.round position.offset

-- The records of a file with this header from a position on, and how the layout of its data section ends.
abbrev pub FileRecordsFrom : List ℕ → Endianness → PerfHeader → RecordPosition → List Attribute → List RecordView → LayoutEnd → Type 0
FileRecordsFrom bytes order h position attrs records end =
    RemainingRecords order (drop (h.data_section.offset + position.offset) bytes) (Some h.data_section.size) position.offset
    (round_at position) attrs records end

-- The iterator of a file is at a position. Its remaining bytes are those of the file from there on.
pub record IsAtPosition (bytes : List ℕ) (position : RecordPosition) (header : PerfHeader) (file : PerfFile) (it : MemoryIter) : Type 0 where
  pub stage_running : it.stage ≡ Running
  pub offset : it.offset ≡ position.offset
  pub offset_fits : it.offset < 2 ^ 64
  pub round : it.round ≡ round_at position
  pub same_endian : it.endian ≡ endian_of_file file
  pub represents : Represents it.endian it.attribute_lookup (attributes_of_file file)
  pub bytes_known : (iter_source_state memory_state it).bytes ≡ Some (drop (header.data_section.offset + position.offset) bytes)
  pub section_size : section_size_of memory_state it ≡ Some header.data_section.size

-- A file was parsed, and the iterator is at a position.
pub record FileParsedAt (bytes : List ℕ) (position : RecordPosition) (file : PerfFile) (it : MemoryIter) : Type 0 where
  pub header : PerfHeader
  pub describes : DescribesFile (at_start bytes) header file
  pub at_position : IsAtPosition bytes position header file it

-- The result of a reader that starts at a position. The errors are those of the file.
abbrev pub ParsesFileAt : List ℕ → RecordPosition → Result InMemoryReader Error → Type 0
ParsesFileAt bytes position (Ok r) = FileParsedAt bytes position r.perf_file r.records.records × (input_of r.records ≡ bytes)
ParsesFileAt bytes position (Err e) = FileParseError (memory_source_at bytes 0) e
