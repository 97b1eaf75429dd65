use Rattle.std.proofs.Common.{◌≡◌}
use Rattle.perfdata_events.specs.Words.{u64s_in}
use Rattle.code_unwind.specs.Samples.{mask_bit, sample_value}
use Rattle.code_unwind.specs.FrameRegisters.{registers_below}
use Rattle.code_unwind.proofs.registers.FrameRegisters.from_sample.Given as goal

abbrev pub invariant-registers : goal.invariant-registers
invariant-registers l = l.registers ≡ registers_below (λ number. sample_value l.mask (u64s_in l.sample.values) (mask_bit l.machine number)) l.number
