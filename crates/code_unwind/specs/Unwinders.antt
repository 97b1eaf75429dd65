-- The frames of a sample.
use Rattle.std.specs.Prelude.{◌≡◌, ℕ, List, [], Bool, Option, Some, None}
use Rattle.code_cfi.specs.declared.instruction.Machine.{Machine}
use Rattle.code_unwind.specs.Machines.{pc_number}
use Rattle.code_unwind.specs.Stacks.{register_of}
use Rattle.code_unwind.specs.FrameSteps.{Finds}
use Rattle.code_unwind.specs.Chains.{IsChain, frame_limit, first_frame}
use Rattle.code_unwind.specs.declared.registers.FrameRegisters.{FrameRegisters}
use Rattle.code_unwind.specs.declared.stack_copy.StackCopy.{StackCopy}
use Rattle.code_unwind.specs.declared.code.MappedCode.{MappedCode}
use Rattle.code_unwind.specs.declared.frame.UserFrame.{UserFrame}
use Rattle.code_unwind.specs.declared.frame.ChainEnd.{ChainEnd}
use Rattle.code_unwind.specs.declared.frame.ChainEnd.TheVariants as ends
use Rattle.code_unwind.specs.declared.chain.Unwinder.{Unwinder}

-- the frames of the last sample
abbrev pub frames_of : Unwinder → List UserFrame
frames_of u = u.frames.items

-- the frames of a sample with these registers and this copy, and why they end. `executable` relates addresses to whether they are in an
-- executable mapping, `at` to what is mapped there; a chain's expressions may have 16,384 operations
module _ (executable : ℕ → Bool → Type 0) (at : ℕ → MappedCode → Type 0) (m : Machine) (r : FrameRegisters) (c : StackCopy) where
  abbrev pub UnwindsFrom : Option ℕ → List UserFrame → ChainEnd → Type 0
  UnwindsFrom None frames end = (frames ≡ []) × (end ≡ ends.BadCfi)
  UnwindsFrom (Some pc) frames end = IsChain executable m (Finds at m c) (frame_limit c) (first_frame r pc) 16384 frames end

  abbrev pub Unwinds : List UserFrame → ChainEnd → Type 0
  Unwinds frames end = UnwindsFrom (register_of r (pc_number m)) frames end
