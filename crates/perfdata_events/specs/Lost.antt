-- PERF_RECORD_LOST of Linux's `perf_event.h`: { u64 id; u64 lost; }
use Rattle.std.specs.Prelude.{ℕ, List}
use Rattle.perfdata_events.specs.Format.{Outcome, fixed}
use Rattle.perfdata_events.specs.Fields.{u64_at}
use Rattle.perfdata_events.specs.declared.lost.LostRecord.{LostRecord}

module _ (number : ℕ → List ℕ → ℕ) where
  abbrev pub lost_at : List ℕ → LostRecord
  lost_at bytes = record { id = u64_at number 0 bytes; count = u64_at number 8 bytes }

  abbrev pub lost : List ℕ → Outcome LostRecord → Type 0
  lost = fixed 16 lost_at
