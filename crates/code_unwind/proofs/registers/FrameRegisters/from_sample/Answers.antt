use Rattle.std.proofs.Common.{ℕ, ap, ◌∙◌}
use Rattle.perfdata_events.specs.Words.{u64s_in}
use Rattle.code_unwind.specs.Samples.{mask_bit, sample_value}
use Rattle.code_unwind.proofs.RegisterLemmas.{registers_set}
use Rattle.code_unwind.proofs.registers.FrameRegisters.from_sample.Goals as goal

pub registers-preserved : goal.registers-preserved
registers-preserved c =
    let values = u64s_in c.args.sample.now.values in
    registers_set (λ (number : ℕ). sample_value c.args.mask values (mask_bit c.args.machine number)) c.registers.number c.registers.registers c.set.new.self c.sample_value-value.result c.registers.invariant
    (c.sample_value-value.ensures ∙ ap (λ (bit : ℕ). sample_value c.args.mask values bit) c.mask_bit-bit.ensures.is)
    c.set.ensures
