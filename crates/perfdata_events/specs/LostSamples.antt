-- PERF_RECORD_LOST_SAMPLES of Linux's `perf_event.h`: { u64 lost; }
use Rattle.std.specs.Prelude.{ℕ, List}
use Rattle.perfdata_events.specs.Format.{Outcome, fixed}
use Rattle.perfdata_events.specs.Fields.{u64_at}
use Rattle.perfdata_events.specs.declared.lost.LostSamplesRecord.{LostSamplesRecord}

module _ (number : ℕ → List ℕ → ℕ) where
  abbrev pub lost_samples_at : List ℕ → LostSamplesRecord
  lost_samples_at bytes = record { count = u64_at number 0 bytes }

  abbrev pub lost_samples : List ℕ → Outcome LostSamplesRecord → Type 0
  lost_samples = fixed 8 lost_samples_at
