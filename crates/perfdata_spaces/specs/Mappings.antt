-- What is mapped.
use Rattle.std.specs.Prelude.{◌≢◌, ℕ, ℤ, ◌+◌, ◌-◌, ◌%◌, ◌^◌, Bool, pos, List, [], ◌++◌, Option, None, Some, if◌then◌else◌}
use Rattle.perfdata_sources.specs.Raw.{bytes_of}
use Rattle.perfdata_events.specs.declared.fields.file_id.Mmap2InodeAndVersion.{Mmap2InodeAndVersion}
use Rattle.perfdata_events.specs.declared.fields.file_id.Mmap2FileId.{Mmap2FileId}
use Rattle.perfdata_events.specs.declared.fields.file_id.Mmap2FileId.TheVariants.{InodeAndVersion, BuildId}
use Rattle.perfdata_events.specs.declared.kernel.KsymbolRecord.{KsymbolRecord}
use Rattle.perfdata_events.specs.declared.mmap.MmapRecord.{MmapRecord}
use Rattle.perfdata_events.specs.declared.mmap2.Mmap2Record.{Mmap2Record}
use Rattle.perfdata_spaces.specs.Ranges.{contains}
use Rattle.perfdata_spaces.specs.declared.mapping.Mapping.{Mapping}
use Rattle.perfdata_spaces.specs.declared.mapping.MappingKind.{MappingKind}
use Rattle.perfdata_spaces.specs.declared.mapping.MappingKind.TheVariants.{Code, Data, KernelSymbol}

-- A mapping with its bytes.
pub record MappingValue : Type 0 where
  pub pid : ℤ
  pub start : ℕ
  pub byte_length : ℕ
  pub page_offset : ℕ
  pub kind : MappingKind
  pub protection : ℕ
  pub flags : ℕ
  pub inode : Option Mmap2InodeAndVersion
  pub build_id : List ℕ
  pub path : List ℕ

abbrev pub mapping_value : Mapping → MappingValue
mapping_value m = record {
  pid = m.pid;
  start = m.start;
  byte_length = m.length;
  page_offset = m.page_offset;
  kind = m.kind;
  protection = m.protection;
  flags = m.flags;
  inode = m.inode;
  build_id = m.build_id.items;
  path = m.path.items;
}

-- Whether a mapping contains an address.
abbrev pub mapping_contains : ℕ → MappingValue → Bool
mapping_contains address m = contains m.start m.byte_length address

-- The mapping has bytes of its own: its path, its name or its build id.
abbrev pub HasBytes : MappingValue → Type 0
HasBytes m = (m.build_id ++ m.path) ≢ []

-- The offset of an address in the file of a mapping, modulo 2^64.
abbrev pub file_offset : MappingValue → ℕ → ℕ
file_offset m address = (address + (2 ^ 64 - m.start) + m.page_offset) % 2 ^ 64

abbrev pub kind_of : Bool → MappingKind
kind_of is_data = if is_data then Data else Code

-- The inode of a file, if the record has it.
abbrev pub inode_of : Mmap2FileId → Option Mmap2InodeAndVersion
inode_of (InodeAndVersion inode) = Some inode
inode_of (BuildId id) = None

-- The build id of a file, empty if the record has none.
abbrev pub build_id_of : Mmap2FileId → List ℕ
build_id_of (InodeAndVersion inode) = []
build_id_of (BuildId id) = bytes_of id

-- The mapping that a record describes. It has no protection: PROT_EXEC (4) stands for executable memory.
abbrev pub mapping_of_mmap : MmapRecord → MappingValue
mapping_of_mmap r = record {
  pid = r.pid;
  start = r.address;
  byte_length = r.length;
  page_offset = r.page_offset;
  kind = kind_of r.is_data;
  protection = if r.is_data then 0 else 4;
  flags = 0;
  inode = None;
  build_id = [];
  path = bytes_of r.path;
}

abbrev pub mapping_of_mmap2 : Mmap2Record → MappingValue
mapping_of_mmap2 r = record {
  pid = r.pid;
  start = r.address;
  byte_length = r.length;
  page_offset = r.page_offset;
  kind = kind_of r.is_data;
  protection = r.protection;
  flags = r.flags;
  inode = inode_of r.file_id;
  build_id = build_id_of r.file_id;
  path = bytes_of r.path;
}

-- The range of a symbol of the kernel.
abbrev pub mapping_of_ksymbol : KsymbolRecord → MappingValue
mapping_of_ksymbol r = record {
  pid = pos 0;
  start = r.address;
  byte_length = r.length;
  page_offset = 0;
  kind = KernelSymbol;
  protection = 4;
  flags = 0;
  inode = None;
  build_id = [];
  path = bytes_of r.name;
}
