-- Steps of private functions: a step from a frame: what is found of its caller.
use Rattle.std.specs.Prelude.{◌≡◌, ℕ, Bool}
use Rattle.code_cfi.specs.declared.instruction.Machine.{Machine}
use Rattle.code_unwind.specs.steps.Callers.{MakesFoundCaller}
use Rattle.code_unwind.specs.steps.ChainEnds.{value_in}
use Rattle.code_unwind.specs.declared.stack_copy.StackCopy.{StackCopy}
use Rattle.code_unwind.specs.declared.frame.UnwoundFrame.{UnwoundFrame}
use Rattle.code_unwind.specs.declared.code.MappedCode.{MappedCode}
use Rattle.code_unwind.specs.declared.registers.FrameRegisters.{FrameRegisters}
use Rattle.code_unwind.specs.declared.step.CallerOutcome.{CallerOutcome}
use Rattle.code_unwind.specs.declared.step.CallerRegisters.{CallerRegisters}
use Rattle.code_unwind.specs.declared.step.Step.{Step}
use Rattle.code_unwind.specs.FrameSteps.{Finds}

-- what is found of a caller, with its registers
abbrev pub found_in : CallerOutcome → FrameRegisters → CallerRegisters
found_in f r = record { is_signal = f.is_signal; origin = f.origin; registers = value_in f.end r }

-- a step: what it finds, and the caller or the end that this makes
pub record IsStep (executable : ℕ → Bool → Type 0) (at : ℕ → MappedCode → Type 0) (m : Machine) (c : StackCopy) (f : UnwoundFrame) (k : ℕ) (step : Step)
    (caller : UnwoundFrame) (n : ℕ) : Type 0 where
  pub found : CallerRegisters
  pub finds : Finds at m c f k found n
  pub makes : MakesFoundCaller executable m f found (value_in step.end caller)
  pub signal_is : step.is_signal ≡ found.is_signal
