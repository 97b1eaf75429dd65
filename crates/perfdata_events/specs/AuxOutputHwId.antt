-- PERF_RECORD_AUX_OUTPUT_HW_ID of Linux's `perf_event.h`: { u64 hw_id; }
use Rattle.std.specs.Prelude.{ℕ, List}
use Rattle.perfdata_events.specs.Format.{Outcome, fixed}
use Rattle.perfdata_events.specs.Fields.{u64_at}
use Rattle.perfdata_events.specs.declared.aux_area.AuxOutputHwIdRecord.{AuxOutputHwIdRecord}

module _ (number : ℕ → List ℕ → ℕ) where
  abbrev pub aux_output_hw_id_at : List ℕ → AuxOutputHwIdRecord
  aux_output_hw_id_at bytes = record { hw_id = u64_at number 0 bytes }

  abbrev pub aux_output_hw_id : List ℕ → Outcome AuxOutputHwIdRecord → Type 0
  aux_output_hw_id = fixed 8 aux_output_hw_id_at
