-- PERF_RECORD_MMAP2 of Linux's `perf_event.h`: { u32 pid, tid; u64 addr; u64 len; u64 pgoff; union { struct { u32 maj; u32 min; u64 ino;
-- u64 ino_generation; }; struct { u8 build_id_size; u8 __reserved_1; u16 __reserved_2; u8 build_id[20]; }; }; u32 prot, flags;
-- char filename[]; }. The union is a build id if bit 14 of the record header's `misc` is set (PERF_RECORD_MISC_MMAP_BUILD_ID), and the
-- mapping isn't executable if bit 13 is (PERF_RECORD_MISC_MMAP_DATA).
use Rattle.std.specs.Prelude.{ℕ, List}
use Rattle.perfdata_sources.specs.Raw.{bytes_of}
use Rattle.perfdata_identifiers.specs.ParseInfo.{is_set}
use Rattle.perfdata_events.specs.Misc.{MMAP_BUILD_ID}
use Rattle.perfdata_events.specs.Format.{Outcome, fixed, fixed_and_text, both}
use Rattle.perfdata_events.specs.Fields.{u32_at}
use Rattle.perfdata_events.specs.FileId.{FileId, file_id_of, file_id}
use Rattle.perfdata_events.specs.Mmap.{Mapping, mapping_at}
use Rattle.perfdata_events.specs.declared.mmap2.Mmap2Record.{Mmap2Record}

-- The protection and the flags of a mapping.
pub record Protection : Type 0 where
  pub protection : ℕ
  pub flags : ℕ

-- The parts of a record: the mapping, its file id, its protection with its flags, and the bytes of its path.
abbrev pub mapping2_of : Mmap2Record → Mapping × (FileId × (Protection × List ℕ))
mapping2_of v = (
  record { pid = v.pid; tid = v.tid; address = v.address; byte_length = v.length; page_offset = v.page_offset; is_data = v.is_data },
  (file_id_of v.file_id, (record { protection = v.protection; flags = v.flags }, bytes_of v.path)),
)

module _ (number : ℕ → List ℕ → ℕ) where
  abbrev pub protection_at : List ℕ → Protection
  protection_at bytes = record { protection = u32_at number 0 bytes; flags = u32_at number 4 bytes }

  module _ (misc : ℕ) where
    -- The mapping, its file id, and its protection with its flags and the path.
    abbrev pub mmap2 : List ℕ → Outcome (Mapping × (FileId × (Protection × List ℕ))) → Type 0
    mmap2 = both (fixed 32 (mapping_at number misc)) (λ _. both (file_id number (is_set misc MMAP_BUILD_ID)) (λ _. fixed_and_text 8 protection_at))
