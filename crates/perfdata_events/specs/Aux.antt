-- PERF_RECORD_AUX of Linux's `perf_event.h`: { u64 aux_offset; u64 aux_size; u64 flags; }
use Rattle.std.specs.Prelude.{ℕ, List}
use Rattle.perfdata_events.specs.Format.{Outcome, fixed}
use Rattle.perfdata_events.specs.Fields.{u64_at}
use Rattle.perfdata_events.specs.declared.aux_area.AuxRecord.{AuxRecord}

module _ (number : ℕ → List ℕ → ℕ) where
  abbrev pub aux_at : List ℕ → AuxRecord
  aux_at bytes = record { offset = u64_at number 0 bytes; size = u64_at number 8 bytes; flags = u64_at number 16 bytes }

  abbrev pub aux : List ℕ → Outcome AuxRecord → Type 0
  aux = fixed 24 aux_at
