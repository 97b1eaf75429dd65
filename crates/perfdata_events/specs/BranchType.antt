-- The bits of the branch sample type that select fields of a branch stack, by their numbers
-- (`perf_branch_sample_type` of Linux's `perf_event.h`).
use Rattle.std.specs.Prelude.{ℕ}

abbrev pub HW_INDEX : ℕ
HW_INDEX = 17

abbrev pub COUNTERS : ℕ
COUNTERS = 19
