-- The caller with the registers that a step found, or the end of the chain.
use Rattle.std.specs.Prelude.{◌≡◌, ◌≢◌, ◌⊎◌, ℕ, ◌%◌, ◌^◌, Bool, true, false, Option, Some, None, Ok, Err, if◌then◌else◌, nat_le, nat_lt}
use Rattle.code_cfi.specs.declared.instruction.Machine.{Machine}
use Rattle.code_cfi.specs.declared.instruction.Machine.TheVariants as machines
use Rattle.code_unwind.specs.Machines.{stack_pointer, pc_number}
use Rattle.code_unwind.specs.Stacks.{register_of}
use Rattle.code_unwind.specs.FrameRegisters.{with_register}
use Rattle.code_unwind.specs.Frames.{look_up_of}
use Rattle.code_unwind.specs.declared.registers.FrameRegisters.{FrameRegisters}
use Rattle.code_unwind.specs.declared.frame.UnwoundFrame.{UnwoundFrame}
use Rattle.code_unwind.specs.declared.frame.ChainEnd.{ChainEnd}
use Rattle.code_unwind.specs.declared.frame.ChainEnd.TheVariants as ends
use Rattle.code_unwind.specs.declared.step.CallerRegisters.{CallerRegisters}

-- the address that a program counter has: on AArch64 its low 48 bits, the others may have a signature
abbrev pub pc_address : Machine → ℕ → ℕ
pc_address machines.X86_64 pc = pc
pc_address machines.AArch64 pc = pc % 2 ^ 48

-- the caller's stack pointer is above that of a frame that called it; above or the same if the frame was interrupted
abbrev pub is_above : Bool → Option ℕ → ℕ → Bool
is_above exact None caller_top = false
is_above true (Some top) caller_top = nat_le top caller_top
is_above false (Some top) caller_top = nat_lt top caller_top

-- over a signal frame the stack pointer may be anywhere
abbrev pub may_follow : Machine → UnwoundFrame → Bool → ℕ → Bool
may_follow m f signal caller_top = (if signal then true else is_above f.is_exact (register_of f.registers (stack_pointer m)) caller_top)

-- both the program counter and the stack pointer are known
pub record Known (m : Machine) (r : FrameRegisters) (pc top : ℕ) : Type 0 where
  pub stored : ℕ
  pub pc_known : register_of r (pc_number m) ≡ Some stored
  pub pc_is : pc ≡ pc_address m stored
  pub top_known : register_of r (stack_pointer m) ≡ Some top

-- the frame that the registers are of
abbrev pub caller_frame : Machine → CallerRegisters → FrameRegisters → ℕ → UnwoundFrame
caller_frame m found r pc = record { registers = with_register r (pc_number m) (Some pc); pc = pc; is_exact = found.is_signal; origin = found.origin }

-- the first conditions hold: the program counter is not 0, and the stack pointer rises
pub record MayCall (m : Machine) (f : UnwoundFrame) (found : CallerRegisters) (r : FrameRegisters) (pc : ℕ) : Type 0 where
  pub top : ℕ
  pub known : Known m r pc top
  pub some : pc ≢ 0
  pub rises : may_follow m f found.is_signal top ≡ true

-- the caller with these registers, which lies in an executable mapping
pub record HasCaller (executable : ℕ → Bool → Type 0) (m : Machine) (f : UnwoundFrame) (found : CallerRegisters) (r : FrameRegisters)
    (caller : UnwoundFrame) : Type 0 where
  pub may : MayCall m f found r caller.pc
  pub caller_is : caller ≡ caller_frame m found r caller.pc
  pub mapped : executable (look_up_of caller) true

-- why registers aren't those of a caller, in this order
abbrev pub EndsWith : (ℕ → Bool → Type 0) → Machine → UnwoundFrame → CallerRegisters → FrameRegisters → ChainEnd → Type 0
EndsWith executable m f found r ends.BadCfi = (register_of r (pc_number m) ≡ None) ⊎ (register_of r (stack_pointer m) ≡ None)
EndsWith executable m f found r ends.Root = (top : ℕ) × Known m r 0 top
EndsWith executable m f found r ends.Stuck = (pc top : ℕ) × Known m r pc top × (pc ≢ 0) × (may_follow m f found.is_signal top ≡ false)
EndsWith executable m f found r ends.Outside = (pc : ℕ) × MayCall m f found r pc × executable (look_up_of (caller_frame m found r pc)) false
EndsWith executable m f found r _ = ⊥

-- the caller with the registers that were found
pub record IsCaller (executable : ℕ → Bool → Type 0) (m : Machine) (f : UnwoundFrame) (found : CallerRegisters) (caller : UnwoundFrame) : Type 0 where
  pub registers : FrameRegisters
  pub found_are : found.registers ≡ Ok registers
  pub has : HasCaller executable m f found registers caller

-- the chain ends: no registers were found, or they aren't those of a caller
pub record HasEnd (executable : ℕ → Bool → Type 0) (m : Machine) (f : UnwoundFrame) (found : CallerRegisters) (e : ChainEnd) : Type 0 where
  pub registers : FrameRegisters
  pub found_are : found.registers ≡ Ok registers
  pub ends_with : EndsWith executable m f found registers e

abbrev pub IsEnd : (ℕ → Bool → Type 0) → Machine → UnwoundFrame → CallerRegisters → ChainEnd → Type 0
IsEnd executable m f found e = (found.registers ≡ Err e) ⊎ HasEnd executable m f found e
