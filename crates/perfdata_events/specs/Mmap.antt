-- PERF_RECORD_MMAP of Linux's `perf_event.h`: { u32 pid, tid; u64 addr; u64 len; u64 pgoff; char filename[]; }. The
-- mapping isn't executable if bit 13 of the record header's `misc` is set (PERF_RECORD_MISC_MMAP_DATA).
use Rattle.std.specs.Prelude.{ℕ, ℤ, Bool, List}
use Rattle.perfdata_sources.specs.Raw.{bytes_of}
use Rattle.perfdata_identifiers.specs.ParseInfo.{is_set}
use Rattle.perfdata_events.specs.Misc.{MMAP_DATA}
use Rattle.perfdata_events.specs.Format.{Outcome, fixed_and_text}
use Rattle.perfdata_events.specs.Fields.{i32_at, u64_at}
use Rattle.perfdata_events.specs.declared.mmap.MmapRecord.{MmapRecord}

-- A mapping without its path.
pub record Mapping : Type 0 where
  pub pid : ℤ
  pub tid : ℤ
  pub address : ℕ
  pub byte_length : ℕ
  pub page_offset : ℕ
  pub is_data : Bool

-- The mapping of a record, and the bytes of its path.
abbrev pub mapping_of : MmapRecord → Mapping × List ℕ
mapping_of v =
    (record { pid = v.pid; tid = v.tid; address = v.address; byte_length = v.length; page_offset = v.page_offset; is_data = v.is_data }, bytes_of v.path)

module _ (number : ℕ → List ℕ → ℕ) (misc : ℕ) where
  abbrev pub mapping_at : List ℕ → Mapping
  mapping_at bytes = record {
    pid = i32_at number 0 bytes;
    tid = i32_at number 4 bytes;
    address = u64_at number 8 bytes;
    byte_length = u64_at number 16 bytes;
    page_offset = u64_at number 24 bytes;
    is_data = is_set misc MMAP_DATA;
  }

  abbrev pub mmap : List ℕ → Outcome (Mapping × List ℕ) → Type 0
  mmap = fixed_and_text 32 mapping_at
