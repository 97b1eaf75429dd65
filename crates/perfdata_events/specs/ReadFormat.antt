-- The bits of the read format, by their numbers (`perf_event_read_format` of Linux's `perf_event.h`).
use Rattle.std.specs.Prelude.{ℕ}

abbrev pub TOTAL_TIME_ENABLED : ℕ
TOTAL_TIME_ENABLED = 0

abbrev pub TOTAL_TIME_RUNNING : ℕ
TOTAL_TIME_RUNNING = 1

abbrev pub ID : ℕ
ID = 2

abbrev pub GROUP : ℕ
GROUP = 3

abbrev pub LOST : ℕ
LOST = 4
