-- Steps of private functions: the state of a `PerfRecordIter`, its remaining records, and the contract of one call.
use Rattle.std.specs.Prelude.{◌≢◌, ℕ, Bool, true, false, List, None}
use Rattle.perfdata_sources.specs.declared.endian.Endianness.{Endianness}
use Rattle.linux_perf_data.specs.Layout.{SectionSize, MayStartAt, IsEnd}

-- Whether a record may start at this offset.
abbrev pub TestsMayStart : SectionSize → ℕ → Bool → Type 0
TestsMayStart bound offset true = MayStartAt bound offset
TestsMayStart bound offset false = (bound ≢ None) × ((order : Endianness) (bytes : List ℕ) → IsEnd order bound offset bytes)
