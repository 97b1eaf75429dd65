-- Steps of private functions: the identity of a mapped file in PERF_RECORD_MMAP2 of Linux's `perf_event.h`: union { struct { u32 maj; u32 min; u64 ino;
-- u64 ino_generation; }; struct { u8 build_id_size; u8 __reserved_1; u16 __reserved_2; u8 build_id[20]; }; }. It is a build id if bit 14
-- of the record header's `misc` is set (PERF_RECORD_MISC_MMAP_BUILD_ID).
use Rattle.std.specs.Prelude.{◌≡◌, ℕ, ◌<◌, ◌≤◌, List, slice_index, Result, Ok, Err}
use Rattle.std.specs.IoError.{error_kind}
use Rattle.std.specs.declared.io.Error.{Error}
use Rattle.std.specs.declared.io.ErrorKind.{ErrorKind}
use Rattle.std.specs.declared.io.ErrorKind.TheVariants.{InvalidData}
use Rattle.perfdata_sources.specs.declared.raw.RawData.{RawData}
use Rattle.perfdata_sources.specs.Raw.{bytes_of}
use Rattle.perfdata_events.specs.FileId.{build_id_at}

pub record IsBuildId (bytes build_id : List ℕ) : Type 0 where
  pub size_fits : slice_index bytes 0 ≤ 20
  pub bytes_are : build_id ≡ build_id_at bytes

pub record HasLargeSize (bytes : List ℕ) (kind : ErrorKind) : Type 0 where
  pub too_large : 20 < slice_index bytes 0
  pub kind_is : kind ≡ InvalidData

-- What reading the build id in 24 bytes does.
abbrev pub ReadsBuildId : List ℕ → Result RawData Error → Type 0
ReadsBuildId bytes (Ok build_id) = IsBuildId bytes (bytes_of build_id)
ReadsBuildId bytes (Err e) = HasLargeSize bytes (error_kind e)
