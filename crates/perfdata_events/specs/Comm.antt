-- PERF_RECORD_COMM of Linux's `perf_event.h`: { u32 pid, tid; char comm[]; }. The name was set by an exec if bit 13 of the record
-- header's `misc` is set (PERF_RECORD_MISC_COMM_EXEC).
use Rattle.std.specs.Prelude.{ℕ, ℤ, Bool, List}
use Rattle.perfdata_sources.specs.Raw.{bytes_of}
use Rattle.perfdata_identifiers.specs.ParseInfo.{is_set}
use Rattle.perfdata_events.specs.Misc.{COMM_EXEC}
use Rattle.perfdata_events.specs.Format.{Outcome, fixed_and_text}
use Rattle.perfdata_events.specs.Fields.{i32_at}
use Rattle.perfdata_events.specs.declared.task.CommOrExecRecord.{CommOrExecRecord}

-- A named task without its name.
pub record NamedTask : Type 0 where
  pub pid : ℤ
  pub tid : ℤ
  pub is_execve : Bool

-- The task of a record, and the bytes of its name.
abbrev pub named_task_of : CommOrExecRecord → NamedTask × List ℕ
named_task_of v = (record { pid = v.pid; tid = v.tid; is_execve = v.is_execve }, bytes_of v.name)

module _ (number : ℕ → List ℕ → ℕ) (misc : ℕ) where
  abbrev pub named_task_at : List ℕ → NamedTask
  named_task_at bytes = record { pid = i32_at number 0 bytes; tid = i32_at number 4 bytes; is_execve = is_set misc COMM_EXEC }

  abbrev pub comm : List ℕ → Outcome (NamedTask × List ℕ) → Type 0
  comm = fixed_and_text 8 named_task_at
