-- Steps of private functions: pERF_RECORD_MMAP2 of Linux's `perf_event.h`: { u32 pid, tid; u64 addr; u64 len; u64 pgoff; union { struct { u32 maj; u32 min;
-- u64 ino;
-- u64 ino_generation; }; struct { u8 build_id_size; u8 __reserved_1; u16 __reserved_2; u8 build_id[20]; }; }; u32 prot, flags;
-- char filename[]; }. The union is a build id if bit 14 of the record header's `misc` is set (PERF_RECORD_MISC_MMAP_BUILD_ID), and the
-- mapping isn't executable if bit 13 is (PERF_RECORD_MISC_MMAP_DATA).
use Rattle.std.specs.Prelude.{ℕ, List}
use Rattle.perfdata_sources.specs.Raw.{bytes_of}
use Rattle.perfdata_events.specs.declared.mmap2.ProtectedPath.{ProtectedPath}
use Rattle.perfdata_events.specs.Mmap2.{Protection}

abbrev pub protected_path_of : ProtectedPath → Protection × List ℕ
protected_path_of v = (record { protection = v.protection; flags = v.flags }, bytes_of v.path)
