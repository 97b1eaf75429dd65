-- Registers and the copy of a stack.
use Rattle.std.specs.Prelude.{ℕ, ◌+◌, ◌-◌, ◌%◌, ◌^◌, length, take, drop, Option, Some, None, if◌then◌else◌, nat_lt, nat_le, slice_index_or, ◌&&◌, false}
use Rattle.code_cfi.specs.Numbers.{fixed_value}
use Rattle.code_unwind.specs.declared.registers.FrameRegisters.{FrameRegisters}
use Rattle.code_unwind.specs.declared.stack_copy.StackCopy.{StackCopy}

-- the value of a register; registers from 33 on have none
abbrev pub register_of : FrameRegisters → ℕ → Option ℕ
register_of r number = (if nat_lt number 33 && slice_index_or r.known number false then Some (slice_index_or r.values number 0) else None)

-- the little-endian number of `size` bytes at an address, if all of them are in the copy; addresses are modulo 2 ^ 64
abbrev pub offset_in : StackCopy → ℕ → ℕ
offset_in c address = (address + (2 ^ 64 - c.address)) % 2 ^ 64

abbrev pub word_of : StackCopy → ℕ → ℕ → Option ℕ
word_of c address size =
    (if nat_le (offset_in c address + size) (length c.bytes.now) then Some (fixed_value (take size (drop (offset_in c address) c.bytes.now))) else None)
