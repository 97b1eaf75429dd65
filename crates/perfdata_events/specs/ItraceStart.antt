-- PERF_RECORD_ITRACE_START of Linux's `perf_event.h`: { u32 pid; u32 tid; }
use Rattle.std.specs.Prelude.{ℕ, List}
use Rattle.perfdata_events.specs.Format.{Outcome, fixed}
use Rattle.perfdata_events.specs.Fields.{i32_at}
use Rattle.perfdata_events.specs.declared.aux_area.ItraceStartRecord.{ItraceStartRecord}

module _ (number : ℕ → List ℕ → ℕ) where
  abbrev pub itrace_start_at : List ℕ → ItraceStartRecord
  itrace_start_at bytes = record { pid = i32_at number 0 bytes; tid = i32_at number 4 bytes }

  abbrev pub itrace_start : List ℕ → Outcome ItraceStartRecord → Type 0
  itrace_start = fixed 8 itrace_start_at
