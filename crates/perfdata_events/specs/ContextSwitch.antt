-- PERF_RECORD_SWITCH of Linux's `perf_event.h`: no fields. PERF_RECORD_SWITCH_CPU_WIDE: { u32 next_prev_pid; u32 next_prev_tid; }, the
-- task after a switch out, and the task before a switch in. The bits are those of the record header's `misc`: 13, the switch is out
-- (PERF_RECORD_MISC_SWITCH_OUT); 14, the task was preempted (PERF_RECORD_MISC_SWITCH_OUT_PREEMPT).
use Rattle.std.specs.Prelude.{ℕ, List, Option, None, Some}
use Rattle.perfdata_identifiers.specs.ParseInfo.{is_set}
use Rattle.perfdata_events.specs.Misc.{SWITCH_OUT, SWITCH_OUT_PREEMPT}
use Rattle.perfdata_events.specs.Format.{Outcome, fixed}
use Rattle.perfdata_events.specs.Fields.{i32_at}
use Rattle.perfdata_events.specs.declared.context_switch.ContextSwitchRecord.{ContextSwitchRecord}
use Rattle.perfdata_events.specs.declared.fields.task.Task.{Task}

module _ (misc : ℕ) where
  -- A switch and the other task.
  abbrev pub switch_with : Option Task → ContextSwitchRecord
  switch_with task = record { is_out = is_set misc SWITCH_OUT; preempted = is_set misc SWITCH_OUT_PREEMPT; other_task = task }

  abbrev pub switch : List ℕ → Outcome ContextSwitchRecord → Type 0
  switch = fixed 0 (λ _. switch_with None)

  module _ (number : ℕ → List ℕ → ℕ) where
    abbrev pub switch_cpu_wide : List ℕ → Outcome ContextSwitchRecord → Type 0
    switch_cpu_wide = fixed 8 (λ bytes. switch_with (Some (record { pid = i32_at number 0 bytes; tid = i32_at number 4 bytes })))
