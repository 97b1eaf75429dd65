-- Steps of private functions: the caller with the registers that a step found, or the end of the chain.
use Rattle.std.specs.Prelude.{ℕ, Bool, Result, Ok, Err}
use Rattle.code_cfi.specs.declared.instruction.Machine.{Machine}
use Rattle.code_unwind.specs.declared.registers.FrameRegisters.{FrameRegisters}
use Rattle.code_unwind.specs.declared.frame.UnwoundFrame.{UnwoundFrame}
use Rattle.code_unwind.specs.declared.frame.ChainEnd.{ChainEnd}
use Rattle.code_unwind.specs.declared.step.CallerRegisters.{CallerRegisters}
use Rattle.code_unwind.specs.Callers.{HasCaller, EndsWith, IsCaller, IsEnd}

-- what is made of these registers: the caller or the end
abbrev pub Makes : (ℕ → Bool → Type 0) → Machine → UnwoundFrame → CallerRegisters → FrameRegisters → Result UnwoundFrame ChainEnd → Type 0
Makes executable m f found r (Ok caller) = HasCaller executable m f found r caller
Makes executable m f found r (Err e) = EndsWith executable m f found r e

-- what a step makes of the registers that it found
abbrev pub MakesFoundCaller : (ℕ → Bool → Type 0) → Machine → UnwoundFrame → CallerRegisters → Result UnwoundFrame ChainEnd → Type 0
MakesFoundCaller executable m f found (Ok caller) = IsCaller executable m f found caller
MakesFoundCaller executable m f found (Err e) = IsEnd executable m f found e
