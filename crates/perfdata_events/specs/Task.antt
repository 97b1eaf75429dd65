-- A process and a thread of Linux's `perf_event.h`: { u32 pid, tid; }
use Rattle.std.specs.Prelude.{ℕ, List}
use Rattle.perfdata_events.specs.Fields.{i32_at}
use Rattle.perfdata_events.specs.declared.fields.task.Task.{Task}

module _ (number : ℕ → List ℕ → ℕ) where
  abbrev pub task_at : List ℕ → Task
  task_at bytes = record { pid = i32_at number 0 bytes; tid = i32_at number 4 bytes }
