-- The state of an iterator over a file in memory, as a walk over its records has it.
use Rattle.std.specs.Prelude.{◌≡◌, ◌≢◌, ℕ, ◌+◌, ◌-◌, ◌^◌, ◌<◌, ◌≤◌, List, [], length, drop, Option, None, Some, IfSome}
use Rattle.std.specs.Io.Cursor.{cursor_inner, cursor_position}
use Rattle.perfdata_sources.specs.Endian.{number_in}
use Rattle.perfdata_sources.specs.RecordHeader.{record_header_of}
use Rattle.perfdata_sections.specs.RecordTypes.{finished_round}
use Rattle.linux_perf_data.specs.declared.attributes.lookup.AttributeLookup.{AttributeLookup}
use Rattle.linux_perf_data.specs.declared.in_memory.InMemoryRecords.{InMemoryRecords}
use Rattle.linux_perf_data.specs.declared.in_memory.file_walk.FileWalk.{FileWalk}
use Rattle.linux_perf_data.specs.declared.in_memory.file_walk.WholeRecord.{WholeRecord}
use Rattle.linux_perf_data.specs.declared.records.input.RecordInput.TheVariants.{Section}
use Rattle.linux_perf_data.specs.declared.records.iter.Stage.TheVariants.{Running}
use Rattle.linux_perf_data.specs.steps.AttributeLookup.{HasOnly}
use Rattle.linux_perf_data.specs.steps.BufferedRecord.{WholeRecordLength}
use Rattle.linux_perf_data.specs.InMemory.{IsInPlace, MemoryIter, memory_state}
use Rattle.linux_perf_data.specs.Iter.{section_size_of}
use Rattle.linux_perf_data.specs.Layout.{StartsWithRecord, record_type_of}

-- The walk has the state of this iterator.
pub record IsWalkOf (it : MemoryIter) (walk : FileWalk) : Type 0 where
  pub running : it.stage ≡ Running
  pub section : it.input ≡ Section walk.section_size
  pub same_endian : walk.endian ≡ it.endian
  pub round : walk.round ≡ it.round
  pub offset : walk.offset ≡ it.offset
  pub remaining : walk.remaining.now ≡ drop (cursor_position it.source) (cursor_inner it.source).now
  pub remaining_fits : length walk.remaining.now < 2 ^ 63
  pub end_fits : walk.remaining.now ≢ [] → cursor_position it.source + length walk.remaining.now < 2 ^ 63
  pub only_parse_info : IfSome walk.only_parse_info (HasOnly it.attribute_lookup)
  pub only_order : IfSome walk.only_parse_info (λ p. p.endian ≡ walk.endian)

-- The walk from the next record on; none if the iterator isn't running, or if it reads a pipe.
abbrev pub StartsWalk : MemoryIter → Option FileWalk → Type 0
StartsWalk it (Some walk) = IsWalkOf it walk
StartsWalk it None = it.stage ≡ Running → section_size_of memory_state it ≡ None

-- The remaining bytes start with this record, which isn't a marker.
pub record IsNextRecord (walk : FileWalk) (next : WholeRecord) : Type 0 where
  pub may_start : walk.offset < walk.section_size
  pub header_is : next.header ≡ record_header_of (number_in walk.endian) walk.remaining.now
  pub whole : WholeRecordLength walk.endian walk.remaining.now (Some next.length)
  pub not_marker : next.header.type_ ≢ finished_round
  pub end_is : next.end ≡ walk.offset + next.length

-- If the remaining bytes start with a whole record, it is a marker.
abbrev pub WalkStartsWithMarkerAtMost : FileWalk → Type 0
WalkStartsWithMarkerAtMost walk = walk.offset < walk.section_size → (p : List ℕ) → StartsWithRecord walk.endian walk.offset walk.remaining.now p
    → record_type_of walk.endian p ≡ finished_round

-- The next record, if the remaining bytes start with a whole one that isn't a marker.
abbrev pub PeeksNextRecord : FileWalk → Option WholeRecord → Type 0
PeeksNextRecord walk (Some next) = IsNextRecord walk next
PeeksNextRecord walk None = WalkStartsWithMarkerAtMost walk

-- The walk after the next record.
pub record MovesPast (old : FileWalk) (next : WholeRecord) (new : FileWalk) : Type 0 where
  pub same_endian : new.endian ≡ old.endian
  pub same_section_size : new.section_size ≡ old.section_size
  pub same_round : new.round ≡ old.round
  pub offset_is : new.offset ≡ next.end
  pub remaining_is : new.remaining.now ≡ drop next.length old.remaining.now
  pub same_parse_info : new.only_parse_info ≡ old.only_parse_info

-- ---- a walk that is ahead of its iterator

-- The remaining bytes of an iterator.
abbrev pub remaining_in : MemoryIter → List ℕ
remaining_in it = drop (cursor_position it.source) (cursor_inner it.source).now

-- The position that a walk from this iterator has reached.
abbrev pub position_of_walk : MemoryIter → FileWalk → ℕ
position_of_walk it walk = cursor_position it.source + (length (remaining_in it) - length walk.remaining.now)

-- The iterator with another state of the lookup.
abbrev pub with_lookup : MemoryIter → AttributeLookup → MemoryIter
with_lookup it lookup = record it { attribute_lookup = lookup }

-- The iterator with another position and another offset.
abbrev pub iter_at : (it : MemoryIter) (position offset : ℕ) → it.round ≤ offset → MemoryIter
iter_at it position offset rounds_fit = record it { source = record it.source { pos = position }; offset = offset; rounds_fit = rounds_fit }

-- The iterator was moved to the position of the walk.
abbrev pub MovesIter : MemoryIter → FileWalk → MemoryIter → Type 0
MovesIter old walk new = (rounds_fit : old.round ≤ walk.offset) → new ≡ iter_at old (position_of_walk old walk) walk.offset rounds_fit

-- The walk has taken the records that follow. The iterator of these records is where the walk started.
pub record IsWalkAhead (records : InMemoryRecords) (walk : FileWalk) : Type 0 where
  pub rounds_fit : records.records.round ≤ walk.offset
  pub in_place : IsInPlace (iter_at records.records
      (position_of_walk records.records walk) walk.offset rounds_fit) records.input.now records.first_record_offset
  pub within : length walk.remaining.now ≤ length (remaining_in records.records)
  pub is_walk : IsWalkOf (iter_at records.records (position_of_walk records.records walk) walk.offset rounds_fit) walk

-- The records that follow the walk.
abbrev pub records_at_walk : (records : InMemoryRecords) (walk : FileWalk) → IsWalkAhead records walk → InMemoryRecords
records_at_walk records walk ahead = record records {
  records = iter_at records.records (position_of_walk records.records walk) walk.offset ahead.rounds_fit;
  in_place = ahead.in_place;
}
