-- The identity of a mapped file in PERF_RECORD_MMAP2 of Linux's `perf_event.h`: union { struct { u32 maj; u32 min; u64 ino;
-- u64 ino_generation; }; struct { u8 build_id_size; u8 __reserved_1; u16 __reserved_2; u8 build_id[20]; }; }. It is a build id if bit 14
-- of the record header's `misc` is set (PERF_RECORD_MISC_MMAP_BUILD_ID).
use Rattle.std.specs.Prelude.{◌≡◌, ℕ, ◌<◌, ◌≤◌, ◌⊎◌, Bool, true, List, length, take, drop, slice_index, if◌then◌else◌}
use Rattle.std.specs.declared.io.ErrorKind.{ErrorKind}
use Rattle.std.specs.declared.io.ErrorKind.TheVariants.{InvalidData}
use Rattle.perfdata_sources.specs.Raw.{bytes_of}
use Rattle.perfdata_events.specs.Format.{Outcome, encodes, fails, IsTruncated}
use Rattle.perfdata_events.specs.Fields.{u32_at, u64_at}
use Rattle.perfdata_events.specs.declared.fields.file_id.Mmap2InodeAndVersion.{Mmap2InodeAndVersion}
use Rattle.perfdata_events.specs.declared.fields.file_id.Mmap2FileId.{Mmap2FileId}
use Rattle.perfdata_events.specs.declared.fields.file_id.Mmap2FileId.TheVariants.{InodeAndVersion, BuildId}

-- The build id in 24 bytes: its size, three reserved bytes, and as many bytes as the size says.
abbrev pub build_id_at : List ℕ → List ℕ
build_id_at bytes = take (slice_index bytes 0) (drop 4 bytes)

-- The bytes of a build id, or an inode with its device and its generation.
pub data FileId : Type 0 where
  build_id : List ℕ → FileId
  inode : Mmap2InodeAndVersion → FileId

abbrev pub file_id_of : Mmap2FileId → FileId
file_id_of (InodeAndVersion v) = inode v
file_id_of (BuildId bytes) = build_id (bytes_of bytes)

module _ (number : ℕ → List ℕ → ℕ) where
  abbrev pub inode_at : List ℕ → Mmap2InodeAndVersion
  inode_at bytes = record {
    major = u32_at number 0 bytes;
    minor = u32_at number 4 bytes;
    inode = u64_at number 8 bytes;
    inode_generation = u64_at number 16 bytes;
  }

  module _ (is_build_id : Bool) where
    -- The file id in 24 bytes.
    abbrev pub file_id_at : List ℕ → FileId
    file_id_at bytes = if is_build_id then build_id (build_id_at bytes) else inode (inode_at bytes)

    pub record IsFileId (xs : List ℕ) (value : FileId) (rest : List ℕ) : Type 0 where
      pub enough : 24 ≤ length xs
      pub size_fits : is_build_id ≡ true → slice_index (take 24 xs) 0 ≤ 20
      pub value_is : value ≡ file_id_at (take 24 xs)
      pub rest_is : rest ≡ drop 24 xs

    -- All 24 bytes are there, and the build id in them has more than 20 bytes.
    pub record HasInvalidSize (xs : List ℕ) (kind : ErrorKind) : Type 0 where
      pub enough : 24 ≤ length xs
      pub is_a_build_id : is_build_id ≡ true
      pub too_large : 20 < slice_index (take 24 xs) 0
      pub kind_is : kind ≡ InvalidData

    abbrev pub file_id : List ℕ → Outcome FileId → Type 0
    file_id xs (encodes value rest) = IsFileId xs value rest
    file_id xs (fails kind) = IsTruncated 24 xs kind ⊎ HasInvalidSize xs kind
