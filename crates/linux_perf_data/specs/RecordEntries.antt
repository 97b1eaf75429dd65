-- The entries of records in memory.
use Rattle.std.specs.Prelude.{◌≡◌, ℕ, ◌+◌, ◌<◌, ◌≤◌, List, [], ◌∷◌, length, take, drop, map, Option, None, Some}
use Rattle.linux_perf_data.specs.declared.in_memory.InMemoryRecords.{InMemoryRecords}
use Rattle.linux_perf_data.specs.declared.in_memory.entries.RecordEntry.{RecordEntry}
use Rattle.linux_perf_data.specs.declared.perf_file.PerfFile.{PerfFile}
use Rattle.linux_perf_data.specs.Attribute.{EventRef}
use Rattle.linux_perf_data.specs.declared.records.iter.Stage.TheVariants.{Running}
use Rattle.linux_perf_data.specs.InMemory.{memory_state}
use Rattle.linux_perf_data.specs.InMemoryReading.{KeepsInput, ReturnsRecordsInMemory, first_record_offset_of, input_of}
use Rattle.linux_perf_data.specs.Iter.{section_size_of}
use Rattle.linux_perf_data.specs.Layout.{RecordView, StartsWithRecord, record_type_of}
use Rattle.perfdata_sections.specs.RecordTypes.{finished_round}

-- ---- entries

-- a number, or 0 for `None`
abbrev pub or_zero : Option ℕ → ℕ
or_zero None = 0
or_zero (Some n) = n

-- 1 for `Some`, otherwise 0
abbrev pub one_if_some : {T : Type 0} → Option T → ℕ
one_if_some None = 0
one_if_some (Some x) = 1

-- the index of a record's attribute, or 0 if it has none
abbrev pub attr_index_or_zero : Option EventRef → ℕ
attr_index_or_zero None = 0
attr_index_or_zero (Some e) = e.index

-- The entry of a record. The first record of the input is at offset `base`. The body follows the record header of eight bytes.
abbrev pub record_entry_at : ℕ → RecordView → RecordEntry
record_entry_at base h = record {
  offset = h.offset;
  body_offset = base + h.offset + 8;
  body_size = length h.body;
  round = h.round;
  timestamp = or_zero h.timestamp;
  attr_index = attr_index_or_zero h.event;
  record_type = h.record_type;
  misc = h.misc;
  has_timestamp = one_if_some h.timestamp;
  has_attr = one_if_some h.event;
}

-- the entries of several records, in order
abbrev pub record_entries_at : ℕ → List RecordView → List RecordEntry
record_entries_at base records = map (record_entry_at base) records

-- the bytes from an offset on start with this body
abbrev pub HasBytesAt : List ℕ → ℕ → List ℕ → Type 0
HasBytesAt bytes offset body = take (length body) (drop offset bytes) ≡ body

-- The body of each record is at the offset in its entry.
abbrev pub HasBodiesAt : List ℕ → ℕ → List RecordView → Type 0
HasBodiesAt bytes base [] = Unit {0}
HasBodiesAt bytes base (h ∷ hs) = HasBytesAt bytes (base + h.offset + 8) h.body × HasBodiesAt bytes base hs

-- ---- arrays

-- Entries over the start of an array, up to its capacity. The elements after them are unchanged.
abbrev pub with_prefix : {T : Type 0} → List T → List T → List T
with_prefix [] old = old
with_prefix (e ∷ es) [] = []
with_prefix (e ∷ es) (o ∷ os) = e ∷ with_prefix es os

-- In a file in which a record may start here: if the remaining bytes start with a whole record, it is a marker.
abbrev pub StartsWithMarkerAtMost : InMemoryRecords → Type 0
StartsWithMarkerAtMost records = records.records.stage ≡ Running → (size : ℕ) → section_size_of memory_state records.records ≡ Some size
    → records.records.offset < size
    → (rest p : List ℕ) → (memory_state records.records.source).bytes ≡ Some rest → StartsWithRecord records.records.endian records.records.offset rest p
    → record_type_of records.records.endian p ≡ finished_round

-- The next records were returned and their entries written. Each body is at the offset in its entry. No `PerfFile` is changed.
-- If the array has capacity for more, no whole record follows but a marker.
pub record ReadsEntries (old : InMemoryRecords) (before : List RecordEntry) (count : ℕ) (new : InMemoryRecords) (after : List RecordEntry) : Type 0 where
  pub records : List RecordView
  pub returned : (file : PerfFile) → ReturnsRecordsInMemory old file records new file
  pub count_is : count ≡ length records
  pub fits : length records ≤ length before
  pub written : after ≡ with_prefix (record_entries_at (first_record_offset_of old) records) before
  pub body_bytes_at : HasBodiesAt (input_of old) (first_record_offset_of old) records
  pub same_input : KeepsInput old new
  pub stops : length records < length before → StartsWithMarkerAtMost new
