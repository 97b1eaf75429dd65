-- The registers in samples of Linux's `perf_event.h`: { u64 abi; u64 regs[weight(mask)]; }
use Rattle.std.specs.Prelude.{ℕ, ◌==◌, List, if◌then◌else◌, count_ones}
use Rattle.perfdata_events.specs.Fields.{u64_at}
use Rattle.perfdata_events.specs.Format.{Outcome, fixed, both}
use Rattle.perfdata_events.specs.Words.{u64s, u64s_in}
use Rattle.perfdata_events.specs.declared.fields.registers.SampleRegisters.{SampleRegisters}

-- The abi of registers, and their values.
abbrev pub registers_of : SampleRegisters → ℕ × List ℕ
registers_of v = (v.abi, u64s_in v.values)

-- With an abi of 0 there are no registers; else there is one for each bit of the mask.
abbrev pub register_count : ℕ → ℕ → ℕ
register_count abi mask = if abi == 0 then 0 else count_ones mask

module _ (number : ℕ → List ℕ → ℕ) where
  abbrev pub registers : ℕ → List ℕ → Outcome (ℕ × List ℕ) → Type 0
  registers mask = both (fixed 8 (u64_at number 0)) (λ abi. u64s number (register_count abi mask))
