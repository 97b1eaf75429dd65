-- The registers of samples (`enum perf_event_x86_regs` and `enum perf_event_arm_regs` of Linux).
use Rattle.std.specs.Prelude.{ℕ, ◌-◌, ◌^◌, ◌==◌, List, [], ◌∷◌, length, Option, Some, None, if◌then◌else◌, nat_lt, slice_index, bit_and, count_ones}
use Rattle.code_cfi.specs.declared.instruction.Machine.{Machine}
use Rattle.code_cfi.specs.declared.instruction.Machine.TheVariants as machines
use Rattle.code_unwind.specs.Machines.{register_count}
use Rattle.code_unwind.specs.FrameRegisters.{registers_below}
use Rattle.code_unwind.specs.declared.registers.FrameRegisters.{FrameRegisters}

-- the bit of the mask that stands for a register, by its DWARF number: AX, DX, CX, BX, SI, DI, BP, SP, R8 to R15 and IP; the same number
abbrev pub bits_of_x86_64 : List ℕ
bits_of_x86_64 = 0 ∷ 3 ∷ 2 ∷ 1 ∷ 4 ∷ 5 ∷ 6 ∷ 7 ∷ 16 ∷ 17 ∷ 18 ∷ 19 ∷ 20 ∷ 21 ∷ 22 ∷ 23 ∷ 8 ∷ []

abbrev pub mask_bit : Machine → ℕ → ℕ
mask_bit machines.X86_64 number = slice_index bits_of_x86_64 number
mask_bit machines.AArch64 number = number

-- the values are in the order of the bits that the mask has
abbrev pub value_at : List ℕ → ℕ → Option ℕ
value_at values index = (if nat_lt index (length values) then Some (slice_index values index) else None)

abbrev pub sample_value : ℕ → List ℕ → ℕ → Option ℕ
sample_value mask values bit = (if bit_and mask (2 ^ bit) == 0 then None else value_at values (count_ones (bit_and mask (2 ^ bit - 1))))

-- the registers of a sample of a 64-bit process
abbrev pub sample_registers : Machine → ℕ → List ℕ → FrameRegisters
sample_registers m mask values = registers_below (λ number. sample_value mask values (mask_bit m number)) (register_count m)

-- the kind of 64-bit processes is 2 (`PERF_SAMPLE_REGS_ABI_64`)
abbrev pub registers_of_sample : Machine → ℕ → ℕ → List ℕ → Option FrameRegisters
registers_of_sample m mask abi values = (if abi == 2 then Some (sample_registers m mask values) else None)
