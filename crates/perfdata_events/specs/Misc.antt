-- The bits of a record header's `misc` that clauses cite, by their numbers (PERF_RECORD_MISC_* of Linux's
-- `perf_event.h`).
use Rattle.std.specs.Prelude.{ℕ}

abbrev pub MMAP_DATA : ℕ
MMAP_DATA = 13

abbrev pub COMM_EXEC : ℕ
COMM_EXEC = 13

abbrev pub SWITCH_OUT : ℕ
SWITCH_OUT = 13

abbrev pub SWITCH_OUT_PREEMPT : ℕ
SWITCH_OUT_PREEMPT = 14

abbrev pub MMAP_BUILD_ID : ℕ
MMAP_BUILD_ID = 14
