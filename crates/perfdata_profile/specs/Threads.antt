-- The ids of threads that are distinguished.
use Rattle.std.specs.Prelude.{ℤ, Option, None, Some}
use Rattle.perfdata_events.specs.declared.fields.task.Task.{Task}
use Rattle.perfdata_profile.specs.declared.options.ThreadIds.{ThreadIds}
use Rattle.perfdata_profile.specs.declared.options.ThreadIds.TheVariants.{Nothing, Process, Thread}

-- The process of a thread, if processes or threads are distinguished.
abbrev pub pid_of : ThreadIds → Task → Option ℤ
pid_of Nothing task = None
pid_of Process task = Some task.pid
pid_of Thread task = Some task.pid

-- The id of a thread, if threads are distinguished.
abbrev pub tid_of : ThreadIds → Task → Option ℤ
tid_of Nothing task = None
tid_of Process task = None
tid_of Thread task = Some task.tid
