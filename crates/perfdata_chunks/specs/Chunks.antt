-- Chunks: parts of an input that start at a record header. How their bytes are framed, and what a call reports.
use Rattle.std.specs.Prelude.{◌≡◌, ◌⊎◌, ℕ, ◌+◌, ◌^◌, ◌<◌, ◌≤◌, ◌==◌, List, [], ◌∷◌, ◌++◌, codes, length, take, drop, if◌then◌else◌, Option, None, Some, Result, Ok, Err, ◌-◌, map}
use Rattle.std.specs.List.{concat}
use Rattle.perfdata_sources.specs.Endian.{number_in}
use Rattle.perfdata_sources.specs.declared.endian.Endianness.{Endianness}
use Rattle.perfdata_sources.specs.RecordHeader.{record_header_of}
use Rattle.perfdata_sections.specs.RecordTypes.{auxtrace, finished_round, header_attr}
use Rattle.linux_perf_data.specs.LateMetadata.{IsMetadataType}
use Rattle.linux_perf_data.specs.Layout.{IsCompressed, IsRecord, aux_size_of, record_size_of, record_type_of}
use Rattle.linux_perf_data.specs.InMemoryPositions.{round_at}
use Rattle.linux_perf_data.specs.RecordEntries.{one_if_some, with_prefix}
use Rattle.linux_perf_data.specs.declared.in_memory.entries.RecordEntry.{RecordEntry}
use Rattle.perfdata_arrays.specs.Entries.{list_of}
use Rattle.perfdata_sources.specs.declared.event.record_header.PerfEventHeader.{PerfEventHeader}
use Rattle.linux_perf_data.specs.declared.in_memory.position.RecordPosition.{RecordPosition}
use Rattle.perfdata_arrays.specs.Status.{status_code}
use Rattle.perfdata_arrays.specs.declared.attrs.Attr.{Attr}
use Rattle.perfdata_arrays.specs.declared.status.Status.{Status}
use Rattle.perfdata_arrays.specs.declared.status.Status.TheVariants.{BadRecordSize, Compressed, NoAttributes, Success, Truncated, TruncatedRecord}
use Rattle.perfdata_chunks.specs.declared.framing.Frame.{Frame}
use Rattle.perfdata_chunks.specs.declared.records.ChunkResult.{ChunkResult}
use Rattle.perfdata_chunks.specs.declared.records.NextFrame.{NextFrame}
use Rattle.perfdata_chunks.specs.declared.status.StartStatus.{StartStatus}
use Rattle.perfdata_chunks.specs.declared.status.StartStatus.TheVariants.{Known, More}

-- ---- one record

-- The bytes are fewer than those of the record that they start with.
abbrev pub IsIncomplete : Endianness → List ℕ → Type 0
IsIncomplete order bytes =
    (length bytes < 8)
    ⊎ ((length bytes < record_size_of order bytes)
    ⊎ ((record_type_of order bytes ≡ auxtrace) × (length bytes < record_size_of order bytes + aux_size_of order bytes)))

-- The record that the bytes start with, whose first byte is at an offset, can't be read. The status says why.
abbrev pub CannotBeFramed : Endianness → ℕ → List ℕ → Status → Type 0
CannotBeFramed order offset bytes status =
    ((status ≡ BadRecordSize) × (record_size_of order bytes < 8))
    ⊎ (((status ≡ TruncatedRecord) × (2 ^ 64 ≤ offset + record_size_of order bytes))
    ⊎ (((status ≡ Compressed) × IsCompressed (record_type_of order bytes))
    ⊎ (((status ≡ Truncated) × (record_type_of order bytes ≡ auxtrace) × (record_size_of order bytes < 48))
    ⊎ ((status ≡ TruncatedRecord) × (record_type_of order bytes ≡ auxtrace) × (2 ^ 64 ≤ offset + record_size_of order bytes + aux_size_of order bytes)))))

-- The bytes start with a whole record or round marker, and this is its frame.
pub record IsFrame (order : Endianness) (offset : ℕ) (bytes : List ℕ) (frame : Frame) : Type 0 where
  pub header : frame.header ≡ record_header_of (number_in order) bytes
  pub has_header : 8 ≤ frame.size
  pub within : frame.size ≤ length bytes
  pub is_record : IsRecord order (take frame.size bytes)
  pub end : frame.end ≡ offset + frame.size
  pub end_fits : frame.end < 2 ^ 64

-- the frame at the start of the bytes; or they are incomplete, or can't be framed
abbrev pub FindsFrame : Endianness → ℕ → List ℕ → Result (Option Frame) Status → Type 0
FindsFrame order offset bytes (Ok (Some frame)) = IsFrame order offset bytes frame
FindsFrame order offset bytes (Ok None) = IsIncomplete order bytes
FindsFrame order offset bytes (Err status) = CannotBeFramed order offset bytes status

-- ---- the records of a chunk

-- What the entry of a record says of its header and of where it is.
pub record EntryPlace : Type 0 where
  pub offset : ℕ
  pub body_offset : ℕ
  pub body_size : ℕ
  pub round : ℕ
  pub record_type : ℕ
  pub misc : ℕ

abbrev pub place_of : RecordEntry → EntryPlace
place_of entry = record {
  offset = entry.offset;
  body_offset = entry.body_offset;
  body_size = entry.body_size;
  round = entry.round;
  record_type = entry.record_type;
  misc = entry.misc;
}

-- That of a record with this header and size, which starts at byte `start` of its chunk.
abbrev pub place_at : RecordPosition → ℕ → PerfEventHeader → ℕ → EntryPlace
place_at position start header size = record {
  offset = position.offset;
  body_offset = start + 8;
  body_size = size - 8;
  round = position.round;
  record_type = header.type_;
  misc = header.misc;
}

-- A round marker has no entry.
abbrev pub places_for : ℕ → EntryPlace → List EntryPlace
places_for record_type place = if record_type == finished_round then [] else place ∷ []

-- 1 for a round marker, and 0 for a record
abbrev pub rounds : ℕ → ℕ
rounds record_type = if record_type == finished_round then 1 else 0

-- 0 for a round marker, and 1 for a record
abbrev pub counted : ℕ → ℕ
counted record_type = if record_type == finished_round then 0 else 1

-- how many of these are records
abbrev pub record_count : Endianness → List (List ℕ) → ℕ
record_count order [] = 0
record_count order (p ∷ ps) = counted (record_type_of order p) + record_count order ps

-- how many of these are round markers
abbrev pub round_count : Endianness → List (List ℕ) → ℕ
round_count order [] = 0
round_count order (p ∷ ps) = rounds (record_type_of order p) + round_count order ps

-- What the entries of these records say. The first of the records and round markers is at a position, and starts at a byte of the chunk.
abbrev pub places_from : Endianness → RecordPosition → ℕ → List (List ℕ) → List EntryPlace
places_from order position start [] = []
places_from order position start (p ∷ ps) =
    places_for (record_type_of order p) (place_at position start (record_header_of (number_in order) p) (length p))
    ++ places_from order (record { offset = position.offset + length p; round = position.round + rounds (record_type_of order p) }) (start + length p) ps

-- Whole records and round markers that follow one another. The first is at this offset.
abbrev pub FollowOneAnother : Endianness → ℕ → List (List ℕ) → Type 0
FollowOneAnother order offset [] = Unit {0}
FollowOneAnother order offset (p ∷ ps) = IsRecord order p × (offset + length p < 2 ^ 64) × FollowOneAnother order (offset + length p) ps

-- The bytes start with these records and round markers, whose size is `consumed`. `count` of them are records.
pub record AreFrames (order : Endianness) (offset : ℕ) (bytes : List ℕ) (frames : List (List ℕ)) (count consumed : ℕ) : Type 0 where
  pub split : bytes ≡ concat frames ++ drop consumed bytes
  pub consumed_is : consumed ≡ length (concat frames)
  pub elements : FollowOneAnother order offset frames
  pub count_is : count ≡ record_count order frames

-- The record that the bytes start with has metadata that can't be applied.
abbrev pub HasUnusableMetadata : Endianness → ℕ → List ℕ → Type 0
HasUnusableMetadata order offset bytes = (frame : Frame) × IsFrame order offset bytes frame × IsMetadataType frame.header.type_

-- The last of these is an attribute.
abbrev pub EndWithAttribute : Endianness → List (List ℕ) → Type 0
EndWithAttribute order frames = (before : List (List ℕ)) × ((p : List ℕ) × (frames ≡ before ++ p ∷ []) × (record_type_of order p ≡ header_attr))

-- Why a call ends: the array is full, or its last record is an attribute, or the rest is incomplete; or the rest can't be read.
abbrev pub EndsChunk : Endianness → ℕ → List (List ℕ) → List ℕ → ℕ → ℕ → Status → Type 0
EndsChunk order offset frames rest count capacity status =
    ((status ≡ Success) × ((count ≡ capacity) ⊎ (EndWithAttribute order frames ⊎ IsIncomplete order rest)))
    ⊎ ((count < capacity) × (CannotBeFramed order offset rest status ⊎ HasUnusableMetadata order offset rest))

-- The entries of these records, of which there are `count`, are written over the start of an array. The elements after them are unchanged.
abbrev pub WritesEntries : Endianness → RecordPosition → List (List ℕ) → List RecordEntry → ℕ → List RecordEntry → Type 0
WritesEntries order from frames old count new =
    (entries : List RecordEntry) × (count ≡ length entries) × (new ≡ with_prefix entries old) × (map place_of entries ≡ places_from order from 0 frames)

-- the position from which records are read: its round is at most its offset
abbrev pub start_of : RecordPosition → RecordPosition
start_of from = record { offset = from.offset; round = round_at from }

-- The records of a chunk, from a position on.
pub record ChunkRead (order : Endianness) (chunk : List ℕ) (from : RecordPosition) (old : List RecordEntry) (result : ChunkResult) (next : RecordPosition)
    (new : List RecordEntry) : Type 0 where
  pub frames : List (List ℕ)
  pub are : AreFrames order from.offset chunk frames result.count result.consumed
  pub fits : result.count ≤ length old
  pub within : result.consumed ≤ length chunk
  pub writes : WritesEntries order (start_of from) frames old result.count new
  pub next_offset : next.offset ≡ from.offset + result.consumed
  pub next_round : next.round ≡ round_at from + round_count order frames
  pub ends : EndsChunk order next.offset frames (drop result.consumed chunk) result.count (length old) result.status

-- The result for a chunk. Without attributes nothing is read, and the position is unchanged.
abbrev pub ReadsChunk : Endianness → List ℕ → List Attr → RecordPosition → List RecordEntry → ChunkResult → RecordPosition → List RecordEntry → Type 0
ReadsChunk order chunk attrs from old result next new =
    ChunkRead order chunk from old result next new
    ⊎ ((attrs ≡ []) × (result.status ≡ NoAttributes) × (result.count ≡ 0) × (result.consumed ≡ 0) × (next ≡ from) × (new ≡ old))

-- A frame, and whether it is that of a record; or the bytes are incomplete; or what can't be read.
abbrev pub ReadsNext : Endianness → RecordPosition → ℕ → List ℕ → Result (Option NextFrame) Status → Type 0
ReadsNext order position start bytes (Ok (Some next)) =
    IsFrame order position.offset bytes next.frame × (one_if_some next.entry ≡ counted next.frame.header.type_)
    × (map place_of (list_of next.entry) ≡ places_for next.frame.header.type_ (place_at position start next.frame.header next.frame.size))
ReadsNext order position start bytes (Ok None) = IsIncomplete order bytes
ReadsNext order position start bytes (Err status) = CannotBeFramed order position.offset bytes status ⊎ HasUnusableMetadata order position.offset bytes

-- ---- laws

-- The frames of a chunk, and those of what was left of it with more bytes behind it, are frames of all of these bytes.
abbrev pub ChunksJoin : Type 0
ChunksJoin = (order : Endianness) (offset : ℕ) (bytes more : List ℕ) (frames later : List (List ℕ)) (count consumed later_count later_consumed : ℕ)
    → AreFrames order offset bytes frames count consumed → AreFrames order (offset + consumed) (drop consumed bytes ++ more) later later_count later_consumed
    → AreFrames order offset (bytes ++ more) (frames ++ later) (count + later_count) (consumed + later_consumed)

-- As many frames of the same bytes are the same, also how many of them are records, and their size.
abbrev pub FramesAreUnique : Type 0
FramesAreUnique = (order : Endianness) (offset : ℕ) (bytes : List ℕ) (frames others : List (List ℕ)) (count consumed count' consumed' : ℕ)
    → AreFrames order offset bytes frames count consumed → AreFrames order offset bytes others count' consumed' → length frames ≡ length others
    → (frames ≡ others) × (count ≡ count') × (consumed ≡ consumed')

-- ---- statuses

-- the text of the status `More`
abbrev pub more_text : List ℕ
more_text = codes "more bytes of the input are needed"

-- the code of a status of a call on the start of an input
abbrev pub start_status_code : StartStatus → ℕ
start_status_code (Known status) = status_code status
start_status_code More = 29
