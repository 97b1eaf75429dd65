-- PERF_RECORD_FORK and PERF_RECORD_EXIT of Linux's `perf_event.h`: { u32 pid, ppid; u32 tid, ptid; u64 time; }
use Rattle.std.specs.Prelude.{ℕ, List}
use Rattle.perfdata_events.specs.Format.{Outcome, fixed}
use Rattle.perfdata_events.specs.Fields.{i32_at, u64_at}
use Rattle.perfdata_events.specs.declared.task.ForkOrExitRecord.{ForkOrExitRecord}

module _ (number : ℕ → List ℕ → ℕ) where
  abbrev pub fork_or_exit_at : List ℕ → ForkOrExitRecord
  fork_or_exit_at bytes = record {
    pid = i32_at number 0 bytes;
    ppid = i32_at number 4 bytes;
    tid = i32_at number 8 bytes;
    ptid = i32_at number 12 bytes;
    timestamp = u64_at number 16 bytes;
  }

  abbrev pub fork_or_exit : List ℕ → Outcome ForkOrExitRecord → Type 0
  fork_or_exit = fixed 24 fork_or_exit_at
