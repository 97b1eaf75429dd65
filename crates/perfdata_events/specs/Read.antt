-- PERF_RECORD_READ of Linux's `perf_event.h`: { u32 pid, tid; struct read_format values; }
use Rattle.std.specs.Prelude.{ℕ, List}
use Rattle.perfdata_events.specs.Format.{Outcome, fixed, both}
use Rattle.perfdata_events.specs.Task.{task_at}
use Rattle.perfdata_events.specs.ReadValues.{Values, values_of, read_values}
use Rattle.perfdata_events.specs.declared.fields.task.Task.{Task}
use Rattle.perfdata_events.specs.declared.read_values.ReadRecord.{ReadRecord}

-- The task of a record and its values.
abbrev pub task_values_of : ReadRecord → Task × Values
task_values_of v = (v.task, values_of v.values)

module _ (number : ℕ → List ℕ → ℕ) (format : ℕ) where
  abbrev pub read : List ℕ → Outcome (Task × Values) → Type 0
  read = both (fixed 8 (task_at number)) (λ _. read_values number format)
