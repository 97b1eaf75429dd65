-- PERF_RECORD_CGROUP of Linux's `perf_event.h`: { u64 id; char path[]; }
use Rattle.std.specs.Prelude.{ℕ, List}
use Rattle.perfdata_sources.specs.Raw.{bytes_of}
use Rattle.perfdata_events.specs.Format.{Outcome, fixed_and_text}
use Rattle.perfdata_events.specs.Fields.{u64_at}
use Rattle.perfdata_events.specs.declared.task.CgroupRecord.{CgroupRecord}

-- The id and the path of a record.
abbrev pub cgroup_of : CgroupRecord → ℕ × List ℕ
cgroup_of v = (v.id, bytes_of v.path)

module _ (number : ℕ → List ℕ → ℕ) where
  abbrev pub cgroup : List ℕ → Outcome (ℕ × List ℕ) → Type 0
  cgroup = fixed_and_text 8 (u64_at number 0)
