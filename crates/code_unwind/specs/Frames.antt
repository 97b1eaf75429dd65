-- Frames: their look-up addresses, and what users see of them.
use Rattle.std.specs.Prelude.{ℕ, ◌+◌, ◌-◌, ◌%◌, ◌^◌, Bool, if◌then◌else◌}
use Rattle.code_unwind.specs.declared.frame.UnwoundFrame.{UnwoundFrame}
use Rattle.code_unwind.specs.declared.frame.UserFrame.{UserFrame}

-- the address of an instruction of the frame: the program counter if it is exact, and the byte before it if it is a return address
abbrev pub look_up_of : UnwoundFrame → ℕ
look_up_of f = (if f.is_exact then f.pc else (f.pc + (2 ^ 64 - 1)) % 2 ^ 64)

-- what users see: the code to which a signal handler returns has its own address
abbrev pub user_frame_of : UnwoundFrame → Bool → UserFrame
user_frame_of f is_signal = record { address = (if is_signal then f.pc else look_up_of f); origin = f.origin; is_signal = is_signal }
