-- What was read where a walk ends.
use Rattle.std.proofs.Common.{ℕ, ◌≤◌, ◌<◌, List, length, ap, arith}
use Rattle.linux_perf_data.specs.declared.in_memory.InMemoryRecords.{InMemoryRecords}
use Rattle.linux_perf_data.specs.declared.in_memory.entries.RecordEntry.{RecordEntry}
use Rattle.linux_perf_data.specs.declared.in_memory.file_walk.FileWalk.{FileWalk}
use Rattle.linux_perf_data.specs.steps.FileWalk.{IsWalkAhead, WalkStartsWithMarkerAtMost, records_at_walk}
use Rattle.linux_perf_data.specs.InMemoryReading.{first_record_offset_of}
use Rattle.linux_perf_data.specs.RecordEntries.{StartsWithMarkerAtMost, record_entries_at}
use Rattle.linux_perf_data.specs.steps.WalkEntries.{EntriesSoFar, ReadsEntriesOfWalk}
use Rattle.linux_perf_data.proofs.EntryLemmas.{length-with_prefix}
use Rattle.linux_perf_data.proofs.FileWalkEnds.{marker_at_most_of_records}

-- the entries so far are those of the whole walk, if it may stop here
read_so_far : (start : InMemoryRecords) (array : List RecordEntry) (now : InMemoryRecords) (walk : FileWalk) (entries : List RecordEntry) (count : ℕ) (ahead : IsWalkAhead now walk) → (s : EntriesSoFar start array (records_at_walk now walk ahead) entries count)
    → (length s.records < length array → StartsWithMarkerAtMost (records_at_walk now walk ahead)) → ReadsEntriesOfWalk start array count now walk entries
read_so_far start array now walk entries count ahead s stops = record {
  ahead = ahead;
  reads = record {
    records = s.records;
    returned = s.returned;
    count_is = s.count_is;
    fits = s.fits;
    written = s.written;
    body_bytes_at = s.body_bytes_at;
    same_input = s.same_input;
    stops = stops;
  };
}

-- the array is full
pub read_all : (start : InMemoryRecords) (array : List RecordEntry) (now : InMemoryRecords) (walk : FileWalk) (entries : List RecordEntry) (count : ℕ) (ahead : IsWalkAhead now walk) → EntriesSoFar start array (records_at_walk now walk ahead) entries count → length entries ≤ count → ReadsEntriesOfWalk start array count now walk entries
read_all start array now walk entries count ahead s full =
    let count_is = s.count_is in
    let long = ap length s.written in
    read_so_far start array now walk entries count ahead s (λ below. absurd (omega (arith, full, count_is, long, below, length-with_prefix (record_entries_at (first_record_offset_of start) s.records) array)))

-- no whole record follows but a marker
pub read_up_to_marker : (start : InMemoryRecords) (array : List RecordEntry) (now : InMemoryRecords) (walk : FileWalk) (entries : List RecordEntry) (count : ℕ) (ahead : IsWalkAhead now walk) → EntriesSoFar start array (records_at_walk now walk ahead) entries count → WalkStartsWithMarkerAtMost walk → ReadsEntriesOfWalk start array count now walk entries
read_up_to_marker start array now walk entries count ahead s only = read_so_far start array now walk entries count ahead s (λ below. marker_at_most_of_records (records_at_walk now walk ahead) walk ahead.is_walk only)
