-- Chains: frames, each the caller of the one before, and why there are no more.
use Rattle.std.specs.Prelude.{◌≡◌, ◌⊎◌, ℕ, ◌+◌, ◌-◌, ◌/◌, ◌≤◌, List, [], ◌∷◌, length, Bool, true, false}
use Rattle.code_cfi.specs.declared.instruction.Machine.{Machine}
use Rattle.code_unwind.specs.Callers.{IsCaller, IsEnd}
use Rattle.code_unwind.specs.Frames.{user_frame_of}
use Rattle.code_unwind.specs.declared.registers.FrameRegisters.{FrameRegisters}
use Rattle.code_unwind.specs.declared.stack_copy.StackCopy.{StackCopy}
use Rattle.code_unwind.specs.declared.frame.UnwoundFrame.{UnwoundFrame}
use Rattle.code_unwind.specs.declared.frame.UserFrame.{UserFrame}
use Rattle.code_unwind.specs.declared.frame.FrameOrigin.TheVariants as origins
use Rattle.code_unwind.specs.declared.frame.ChainEnd.{ChainEnd}
use Rattle.code_unwind.specs.declared.frame.ChainEnd.TheVariants as ends
use Rattle.code_unwind.specs.declared.step.CallerRegisters.{CallerRegisters}

-- the largest number of frames of a chain with this copy
abbrev pub frame_limit : StackCopy → ℕ
frame_limit c = length c.bytes.now / 8 + 16

-- the frame of a sample's registers
abbrev pub first_frame : FrameRegisters → ℕ → UnwoundFrame
first_frame r pc = record { registers = r; pc = pc; is_exact = true; origin = origins.Registers }

-- the address of a frame is in an executable mapping, unless it is that of a signal frame, which may be one after such an address
abbrev pub IsMapped : (ℕ → Bool → Type 0) → UserFrame → Type 0
IsMapped executable u = u.is_signal ≡ false → executable u.address true

-- `finds f k found n`: a step from the frame, when k operations of expressions are left, finds these registers, and leaves n
module _ (executable : ℕ → Bool → Type 0) (m : Machine) (finds : UnwoundFrame → ℕ → CallerRegisters → ℕ → Type 0) where
  -- the chain ends after a frame, where it may have `room` frames from this one on
  pub record IsLast (f : UnwoundFrame) (found : CallerRegisters) (room : ℕ) (e : ChainEnd) : Type 0 where
    pub why : IsEnd executable m f found e ⊎ ((e ≡ ends.Limit) × (room ≤ 1) × ((g : UnwoundFrame) × IsCaller executable m f found g))

  -- the frames from a frame on
  abbrev pub IsChain : ℕ → UnwoundFrame → ℕ → List UserFrame → ChainEnd → Type 0
  IsChain room f k [] e = ⊥
  IsChain room f k (u ∷ us) e =
      (found : CallerRegisters) × (n : ℕ) × finds f k found n × (u ≡ user_frame_of f found.is_signal)
      × (((us ≡ []) × IsLast f found room e) ⊎ ((g : UnwoundFrame) × (2 ≤ room) × IsCaller executable m f found g × IsChain (room - 1) g n us e))
