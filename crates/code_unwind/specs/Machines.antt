-- The registers of the machines, by their DWARF numbers (System V ABI AMD64, figure 3.36; DWARF for the Arm 64-bit Architecture).
use Rattle.std.specs.Prelude.{ℕ}
use Rattle.code_cfi.specs.declared.instruction.Machine.{Machine}
use Rattle.code_cfi.specs.declared.instruction.Machine.TheVariants as machines

-- the number of the registers, which are numbered from 0 on: 0 to 15 and the program counter; x0 to x30, sp and the program counter
abbrev pub register_count : Machine → ℕ
register_count machines.X86_64 = 17
register_count machines.AArch64 = 33

-- rbp, x29
abbrev pub frame_pointer : Machine → ℕ
frame_pointer machines.X86_64 = 6
frame_pointer machines.AArch64 = 29

-- rsp, sp
abbrev pub stack_pointer : Machine → ℕ
stack_pointer machines.X86_64 = 7
stack_pointer machines.AArch64 = 31

abbrev pub pc_number : Machine → ℕ
pc_number machines.X86_64 = 16
pc_number machines.AArch64 = 32
