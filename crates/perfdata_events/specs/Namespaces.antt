-- PERF_RECORD_NAMESPACES of Linux's `perf_event.h`: { u32 pid; u32 tid; u64 nr_namespaces; { u64 dev, inode; } [nr_namespaces]; }
use Rattle.std.specs.Prelude.{ℕ, ℤ, ◌+◌, ◌*◌, ◌/◌, List, length, slice_index}
use Rattle.perfdata_events.specs.Format.{Outcome}
use Rattle.perfdata_events.specs.Fields.{i32_at, u64_at}
use Rattle.perfdata_events.specs.Words.{fixed_and_u64s, u64s_in}
use Rattle.perfdata_events.specs.declared.task.Namespace.{Namespace}
use Rattle.perfdata_events.specs.declared.task.NamespacesRecord.{NamespacesRecord}

-- A process and a thread.
pub record TaskIds : Type 0 where
  pub pid : ℤ
  pub tid : ℤ

-- The task of a record, and the numbers of its namespaces: of each the device and the inode.
abbrev pub namespaces_of : NamespacesRecord → TaskIds × List ℕ
namespaces_of v = (record { pid = v.pid; tid = v.tid }, u64s_in v.namespaces)

-- The number of namespaces, and the namespace at an index.
abbrev pub namespace_count : NamespacesRecord → ℕ
namespace_count v = length (u64s_in v.namespaces) / 2

abbrev pub namespace_at : NamespacesRecord → ℕ → Namespace
namespace_at v index = record { device = slice_index (u64s_in v.namespaces) (2 * index); inode = slice_index (u64s_in v.namespaces) (2 * index + 1) }

module _ (number : ℕ → List ℕ → ℕ) where
  abbrev pub task_ids_at : List ℕ → TaskIds
  task_ids_at bytes = record { pid = i32_at number 0 bytes; tid = i32_at number 4 bytes }

  abbrev pub namespaces : List ℕ → Outcome (TaskIds × List ℕ) → Type 0
  namespaces = fixed_and_u64s number 16 task_ids_at (λ bytes. 2 * u64_at number 8 bytes)
