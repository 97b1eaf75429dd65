-- Steps of private functions: what buffered bytes show about the remaining records.
use Rattle.std.specs.Prelude.{◌≡◌, ◌^◌, ◌≢◌, ℕ, ◌+◌, ◌<◌, ◌≤◌, List, ◌++◌, length, take, Option, None, Some}
use Rattle.perfdata_sources.specs.Endian.{number_in}
use Rattle.perfdata_sources.specs.RecordHeader.{record_header_of}
use Rattle.perfdata_sources.specs.declared.event.record_header.PerfEventHeader.{PerfEventHeader}
use Rattle.perfdata_sources.specs.declared.endian.Endianness.{Endianness}
use Rattle.linux_perf_data.specs.Layout.{IsRecord}

-- The total size of the whole record at the start of `bytes`; `None` if no prefix of `bytes` is a record.
abbrev pub WholeRecordLength : Endianness → List ℕ → Option ℕ → Type 0
WholeRecordLength order bytes (Some n) = (8 ≤ n) × (n ≤ length bytes) × IsRecord order (take n bytes)
WholeRecordLength order bytes None = (p r : List ℕ) → IsRecord order p → bytes ≢ p ++ r

-- `bytes` start with this record header.
abbrev pub StartsWithHeader : Endianness → List ℕ → PerfEventHeader → Type 0
StartsWithHeader order bytes header = (8 ≤ length bytes) × (header ≡ record_header_of (number_in order) bytes)

-- The header of the whole record at the start of `bytes`, and its total size.
abbrev pub PeeksWholeRecord : Endianness → List ℕ → Option (PerfEventHeader × ℕ) → Type 0
PeeksWholeRecord order bytes (Some r) = (r.0 ≡ record_header_of (number_in order) bytes) × WholeRecordLength order bytes (Some r.1)
PeeksWholeRecord order bytes None = WholeRecordLength order bytes None

-- The header of the whole record of the kernel at the start of `bytes`, and its size, which is below 2^16 bytes.
abbrev pub PeeksKernelRecord : Endianness → List ℕ → PerfEventHeader × ℕ → Type 0
PeeksKernelRecord order bytes r = (r.0.type_ < 64) × (r.1 < 2 ^ 16) × PeeksWholeRecord order bytes (Some r)
