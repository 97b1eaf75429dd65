-- The state machine of line programs (DWARF 5, sections 6.2.2 and 6.2.5). Addresses are modulo 2^64, or 2^32 where they have 4 bytes, lines modulo
-- 2^32, numbers of operations modulo 2^64.
use Rattle.std.specs.Prelude.{◌≡◌, ℕ, ◌+◌, ◌-◌, ◌*◌, ◌/◌, ◌%◌, ◌^◌, max, Bool, true, false, ℤ}
use Rattle.std.specs.Int.{cast_unsigned, w64}
use Rattle.code_dwarf.specs.declared.forms.Encoding.{Encoding}
use Rattle.code_dwarf.specs.declared.line_header.LineHeader.{LineHeader}
use Rattle.code_dwarf.specs.declared.line_instruction.LineInstruction.{LineInstruction}
use Rattle.code_dwarf.specs.declared.line_instruction.LineInstruction.TheVariants as instructions
use Rattle.code_dwarf.specs.declared.line_instruction.Registers.{Registers}
use Rattle.code_dwarf.specs.declared.line_instruction.RowEffect.{RowEffect}
use Rattle.code_dwarf.specs.declared.line_instruction.RowEffect.TheVariants as effects

-- a number as an address
abbrev pub wrapped_in : Bool → ℕ → ℕ
wrapped_in true n = n % 2 ^ 64
wrapped_in false n = n % 2 ^ 32

abbrev pub wrapped : Encoding → ℕ → ℕ
wrapped e n = wrapped_in e.has_64_bit_addresses n

-- the registers at the start of a sequence
abbrev pub initial : Registers
initial = record { address = 0; operation = 0; file = 1; line = 1; column = 0 }

-- the registers after an advance by a number of operations: instructions of the machine are multiples of its smallest size, and each has up to
-- this many operations
abbrev pub operations_after : LineHeader → Registers → ℕ → ℕ
operations_after h r n = (r.operation + n) % 2 ^ 64

abbrev pub advanced : LineHeader → Registers → ℕ → Registers
advanced h r n = record r {
  address = wrapped h.encoding (r.address + h.minimum_size * (operations_after h r n / max h.maximum_operations 1));
  operation = operations_after h r n % max h.maximum_operations 1;
}

-- the line after an advance by the number that 64 bits are
abbrev pub with_line : Registers → ℕ → Registers
with_line r n = record r { line = (r.line + n) % 2 ^ 32 }

-- the registers with another address, at the first operation there
abbrev pub with_address : Registers → ℕ → Registers
with_address r a = record r { address = a; operation = 0 }

-- a special opcode, of which this is what it is above the first one, advances address and line
abbrev pub after_special : LineHeader → Registers → ℕ → Registers
after_special h r op = with_line (advanced h r (op / max h.line_range 1)) (cast_unsigned w64 h.line_base + op % max h.line_range 1)

-- the registers after an instruction
abbrev pub after : LineHeader → LineInstruction → Registers → Registers
after h (instructions.Special op) r = after_special h r op
after h (instructions.AdvanceAddress n) r = advanced h r n
after h (instructions.AdvanceLine z) r = with_line r (cast_unsigned w64 z)
after h (instructions.SetFile n) r = record r { file = n }
after h (instructions.SetColumn n) r = record r { column = n }
after h instructions.AdvanceByLast r = advanced h r ((255 - h.opcode_base) / max h.line_range 1)
after h (instructions.AdvanceFixed n) r = with_address r (wrapped h.encoding (r.address + n))
after h (instructions.SetAddress a) r = with_address r a
after h _ r = r

-- special opcodes and `DW_LNS_copy` append a row, `DW_LNE_end_sequence` ends the sequence
abbrev pub effect_of : LineInstruction → RowEffect
effect_of (instructions.Special op) = effects.Row
effect_of instructions.Copy = effects.Row
effect_of instructions.EndSequence = effects.End
effect_of _ = effects.None
