-- The mappings of files into memory, as plain numbers.
use Rattle.std.specs.Prelude.{ℕ, ◌+◌, ◌==◌, ◌||◌, Bool, true, List, [], length, min, replicate, Option, None, Some}
use Rattle.linux_perf_data.specs.RecordEntries.{with_prefix}
use Rattle.perfdata_sources.specs.Raw.{bytes_of}
use Rattle.perfdata_events.specs.declared.event.EventRecord.{EventRecord}
use Rattle.perfdata_events.specs.declared.event.EventRecord.TheVariants as event
use Rattle.perfdata_events.specs.declared.fields.file_id.Mmap2FileId.{Mmap2FileId}
use Rattle.perfdata_events.specs.declared.fields.file_id.Mmap2FileId.TheVariants.{InodeAndVersion, BuildId}
use Rattle.perfdata_events.specs.declared.mmap.MmapRecord.{MmapRecord}
use Rattle.perfdata_events.specs.declared.mmap2.Mmap2Record.{Mmap2Record}
use Rattle.linux_perf_data.specs.declared.in_memory.position.RecordPosition.{RecordPosition}
use Rattle.perfdata_arrays.specs.DecodedPages.{ReadsDecodedPage, ReadsDecodedPipe}
use Rattle.perfdata_arrays.specs.Decoding.{EntryKind}
use Rattle.perfdata_arrays.specs.declared.pages.PageResult.{PageResult}
use Rattle.perfdata_arrays.specs.Entries.{event_kind, list_of}
use Rattle.perfdata_arrays.specs.Tasks.{one_if_true}
use Rattle.perfdata_arrays.specs.declared.envelope.EntryEnvelope.{EntryEnvelope}
use Rattle.perfdata_arrays.specs.declared.mappings.FileIdentity.{FileIdentity}
use Rattle.perfdata_arrays.specs.declared.mappings.MappingEntry.{MappingEntry}

-- a build id in 20 bytes: its bytes, and zeros after them
abbrev pub padded_build_id : List ℕ → List ℕ
padded_build_id id = with_prefix id (replicate 20 0)

-- the device and the inode of a file, or its build id
abbrev pub identity_of : Mmap2FileId → FileIdentity
identity_of (InodeAndVersion v) = record {
  inode = v.inode;
  inode_generation = v.inode_generation;
  major = v.major;
  minor = v.minor;
  build_id = replicate 20 0;
  build_id_size = 0;
}
identity_of (BuildId id) = record {
  inode = 0;
  inode_generation = 0;
  major = 0;
  minor = 0;
  build_id = padded_build_id (bytes_of id);
  build_id_size = min 20 (length (bytes_of id));
}

-- the path is after 32 bytes of the body
abbrev pub mmap_entry : EntryEnvelope → MmapRecord → MappingEntry
mmap_entry envelope mapping = record {
  offset = envelope.offset;
  timestamp = envelope.timestamp;
  address = mapping.address;
  length = mapping.length;
  page_offset = mapping.page_offset;
  inode = 0;
  inode_generation = 0;
  path_offset = envelope.body_offset + 32;
  path_size = length (bytes_of mapping.path);
  kind = 1;
  major = 0;
  minor = 0;
  protection = 0;
  flags = 0;
  pid = mapping.pid;
  tid = mapping.tid;
  build_id = replicate 20 0;
  build_id_size = 0;
  is_data = one_if_true mapping.is_data;
  misc = envelope.misc;
  reserved = 0;
}

-- the path is after 64 bytes of the body
abbrev pub mmap2_entry : EntryEnvelope → Mmap2Record → MappingEntry
mmap2_entry envelope mapping =
    let file = identity_of mapping.file_id in
    record {
      offset = envelope.offset;
      timestamp = envelope.timestamp;
      address = mapping.address;
      length = mapping.length;
      page_offset = mapping.page_offset;
      inode = file.inode;
      inode_generation = file.inode_generation;
      path_offset = envelope.body_offset + 64;
      path_size = length (bytes_of mapping.path);
      kind = 10;
      major = file.major;
      minor = file.minor;
      protection = mapping.protection;
      flags = mapping.flags;
      pid = mapping.pid;
      tid = mapping.tid;
      build_id = file.build_id;
      build_id_size = file.build_id_size;
      is_data = one_if_true mapping.is_data;
      misc = envelope.misc;
      reserved = 0;
    }

-- the entry of a parsed record: MMAP (1) and MMAP2 (10)
abbrev pub event_mapping : EntryEnvelope → EventRecord → Option MappingEntry
event_mapping envelope (event.Mmap mapping) = Some (mmap_entry envelope mapping)
event_mapping envelope (event.Mmap2 mapping) = Some (mmap2_entry envelope mapping)
event_mapping envelope _ = None

abbrev pub is_mapping_type : ℕ → Bool
is_mapping_type kind = (kind == 1) || (kind == 10)

abbrev pub event_mappings : EntryEnvelope → EventRecord → List MappingEntry
event_mappings envelope event = list_of (event_mapping envelope event)

abbrev pub mapping_kind : EntryKind MappingEntry (Unit {0})
mapping_kind = event_kind is_mapping_type event_mappings true

-- the result for a page of a file
abbrev pub ReadsMappingPage : List ℕ → RecordPosition → List MappingEntry → PageResult → RecordPosition → List MappingEntry → Type 0
ReadsMappingPage bytes from mappings result next mappings' = ReadsDecodedPage mapping_kind bytes from mappings [] result next mappings' []

-- the result for a pipe
abbrev pub ReadsPipeMappings : List ℕ → List MappingEntry → PageResult → List MappingEntry → Type 0
ReadsPipeMappings bytes mappings result mappings' = ReadsDecodedPipe mapping_kind bytes mappings [] result mappings' []
