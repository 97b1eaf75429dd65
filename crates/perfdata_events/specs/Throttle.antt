-- PERF_RECORD_THROTTLE and PERF_RECORD_UNTHROTTLE of Linux's `perf_event.h`: { u64 time; u64 id; u64 stream_id; }
use Rattle.std.specs.Prelude.{ℕ, List}
use Rattle.perfdata_events.specs.Format.{Outcome, fixed}
use Rattle.perfdata_events.specs.Fields.{u64_at}
use Rattle.perfdata_events.specs.declared.lost.ThrottleRecord.{ThrottleRecord}

module _ (number : ℕ → List ℕ → ℕ) where
  abbrev pub throttle_at : List ℕ → ThrottleRecord
  throttle_at bytes = record { timestamp = u64_at number 0 bytes; id = u64_at number 8 bytes; stream_id = u64_at number 16 bytes }

  abbrev pub throttle : List ℕ → Outcome ThrottleRecord → Type 0
  throttle = fixed 24 throttle_at
