-- The registers of a frame, as far as they are known.
use Rattle.std.specs.Option.{unwrap_or}
use Rattle.std.specs.Prelude.{ℕ, zero, suc, false, Option, is_some, if◌then◌else◌, nat_lt, slice_set, replicate}
use Rattle.code_unwind.specs.declared.registers.FrameRegisters.{FrameRegisters}

-- no register is known
abbrev pub no_registers : FrameRegisters
no_registers = record { values = replicate 33 0; known = replicate 33 false }

-- one register has another value; registers from 33 on stay unknown
abbrev pub with_register : FrameRegisters → ℕ → Option ℕ → FrameRegisters
with_register r number value = record {
  values = (if nat_lt number 33 then slice_set r.values number (unwrap_or value 0) else r.values);
  known = (if nat_lt number 33 then slice_set r.known number (is_some value) else r.known);
}

-- the registers below a number have these values, and no other is known
abbrev pub registers_below : (ℕ → Option ℕ) → ℕ → FrameRegisters
registers_below value zero = no_registers
registers_below value (suc n) = with_register (registers_below value n) n (value n)
