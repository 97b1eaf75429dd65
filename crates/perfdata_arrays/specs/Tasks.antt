-- The records on tasks, as plain numbers.
use Rattle.std.specs.Prelude.{ℕ, ◌+◌, ◌==◌, ◌||◌, Bool, true, false, List, [], length, pos, Option, None, Some}
use Rattle.perfdata_sources.specs.Raw.{bytes_of}
use Rattle.perfdata_events.specs.declared.event.EventRecord.{EventRecord}
use Rattle.perfdata_events.specs.declared.event.EventRecord.TheVariants as event
use Rattle.perfdata_events.specs.declared.task.CommOrExecRecord.{CommOrExecRecord}
use Rattle.perfdata_events.specs.declared.task.ForkOrExitRecord.{ForkOrExitRecord}
use Rattle.linux_perf_data.specs.declared.in_memory.position.RecordPosition.{RecordPosition}
use Rattle.perfdata_arrays.specs.DecodedPages.{ReadsDecodedPage, ReadsDecodedPipe}
use Rattle.perfdata_arrays.specs.Decoding.{EntryKind}
use Rattle.perfdata_arrays.specs.declared.pages.PageResult.{PageResult}
use Rattle.perfdata_arrays.specs.Entries.{event_kind, list_of}
use Rattle.perfdata_arrays.specs.declared.envelope.EntryEnvelope.{EntryEnvelope}
use Rattle.perfdata_arrays.specs.declared.tasks.TaskEntry.{TaskEntry}

abbrev pub one_if_true : Bool → ℕ
one_if_true false = 0
one_if_true true = 1

abbrev pub fork_or_exit_entry : EntryEnvelope → ℕ → ForkOrExitRecord → TaskEntry
fork_or_exit_entry envelope kind task = record {
  offset = envelope.offset;
  timestamp = envelope.timestamp;
  name_offset = 0;
  name_size = 0;
  kind = kind;
  is_exec = 0;
  pid = task.pid;
  tid = task.tid;
  parent_pid = task.ppid;
  parent_tid = task.ptid;
}

-- a name is after eight bytes of the body
abbrev pub comm_entry : EntryEnvelope → CommOrExecRecord → TaskEntry
comm_entry envelope comm = record {
  offset = envelope.offset;
  timestamp = envelope.timestamp;
  name_offset = envelope.body_offset + 8;
  name_size = length (bytes_of comm.name);
  kind = 3;
  is_exec = one_if_true comm.is_execve;
  pid = comm.pid;
  tid = comm.tid;
  parent_pid = pos 0;
  parent_tid = pos 0;
}

-- the entry of a parsed record: COMM (3), EXIT (4) and FORK (7)
abbrev pub event_task : EntryEnvelope → EventRecord → Option TaskEntry
event_task envelope (event.Comm comm) = Some (comm_entry envelope comm)
event_task envelope (event.Exit task) = Some (fork_or_exit_entry envelope 4 task)
event_task envelope (event.Fork task) = Some (fork_or_exit_entry envelope 7 task)
event_task envelope _ = None

abbrev pub is_task_type : ℕ → Bool
is_task_type kind = (kind == 3) || ((kind == 4) || (kind == 7))

abbrev pub event_tasks : EntryEnvelope → EventRecord → List TaskEntry
event_tasks envelope event = list_of (event_task envelope event)

abbrev pub task_kind : EntryKind TaskEntry (Unit {0})
task_kind = event_kind is_task_type event_tasks true

-- the result for a page of a file
abbrev pub ReadsTaskPage : List ℕ → RecordPosition → List TaskEntry → PageResult → RecordPosition → List TaskEntry → Type 0
ReadsTaskPage bytes from tasks result next tasks' = ReadsDecodedPage task_kind bytes from tasks [] result next tasks' []

-- the result for a pipe
abbrev pub ReadsPipeTasks : List ℕ → List TaskEntry → PageResult → List TaskEntry → Type 0
ReadsPipeTasks bytes tasks result tasks' = ReadsDecodedPipe task_kind bytes tasks [] result tasks' []
