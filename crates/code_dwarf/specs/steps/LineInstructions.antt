-- The instructions of line programs (DWARF 5, section 6.2.5; `DW_LNE_define_file`: DWARF 4, section 6.2.5.3).
use Rattle.std.specs.Prelude.{◌≡◌, ◌⊎◌, ℕ, ◌+◌, ◌-◌, ◌<◌, ◌≤◌, zero, suc, List, ◌∷◌, length, slice_index, ℤ}
use Rattle.code_cfi.specs.Numbers.{Uleb128At, Sleb128At}
use Rattle.code_dwarf.specs.steps.Numbers.{NumberAt, OffsetAt, SplitAt}
use Rattle.code_dwarf.specs.declared.line_header.LineHeader.{LineHeader}
use Rattle.code_dwarf.specs.declared.line_instruction.LineInstruction.{LineInstruction}
use Rattle.code_dwarf.specs.declared.line_instruction.LineInstruction.TheVariants as instructions

-- this many unsigned LEB128 numbers
abbrev pub OperandsAt : ℕ → List ℕ → List ℕ → Type 0
OperandsAt zero bytes rest = rest ≡ bytes
OperandsAt (suc count) bytes rest = (n : ℕ) × (mid : List ℕ) × Uleb128At bytes n mid × OperandsAt count mid rest

-- the operands after a standard opcode that is known, 1 to 12, for each instruction. `DW_LNS_negate_stmt`, `set_basic_block`, `set_prologue_end`
-- and `set_epilogue_begin` (6, 7, 10 and 11) and `set_isa` (12) change nothing that rows have here
abbrev pub StandardAt : LineHeader → ℕ → List ℕ → LineInstruction → List ℕ → Type 0
StandardAt h op bytes instructions.Copy rest = (op ≡ 1) × (rest ≡ bytes)
StandardAt h op bytes (instructions.AdvanceAddress n) rest = (op ≡ 2) × Uleb128At bytes n rest
StandardAt h op bytes (instructions.AdvanceLine z) rest = (op ≡ 3) × Sleb128At bytes z rest
StandardAt h op bytes (instructions.SetFile n) rest = (op ≡ 4) × Uleb128At bytes n rest
StandardAt h op bytes (instructions.SetColumn n) rest = (op ≡ 5) × Uleb128At bytes n rest
StandardAt h op bytes instructions.AdvanceByLast rest = (op ≡ 8) × (rest ≡ bytes)
StandardAt h op bytes (instructions.AdvanceFixed n) rest = (op ≡ 9) × NumberAt h.encoding.endian 2 bytes n rest
StandardAt h op bytes instructions.Other rest =
    (((op ≡ 6) ⊎ (op ≡ 7) ⊎ (op ≡ 10) ⊎ (op ≡ 11)) × (rest ≡ bytes)) ⊎ ((op ≡ 12) × ((n : ℕ) × Uleb128At bytes n rest))
StandardAt h op bytes _ rest = ⊥

-- an extended instruction by its opcode and operands, which end at the offset `end`. Instructions with unknown opcodes change nothing
abbrev pub ExtendedIs : LineHeader → ℕ → ℕ → List ℕ → LineInstruction → Type 0
ExtendedIs h end op bytes instructions.EndSequence = op ≡ 1
ExtendedIs h end op bytes (instructions.SetAddress a) = (op ≡ 2) × ((rest : List ℕ) × OffsetAt h.encoding.endian h.encoding.has_64_bit_addresses bytes a rest)
ExtendedIs h end op bytes (instructions.DefineFile n) = (op ≡ 3) × (h.encoding.version < 5) × (n ≡ end - length bytes)
ExtendedIs h end op bytes instructions.Other = (op ≡ 1 → ⊥) × (op ≡ 2 → ⊥) × (op ≡ 3 → 5 ≤ h.encoding.version)
ExtendedIs h end op bytes _ = ⊥

-- after the byte 0 an extended instruction: its size, its opcode, its operands
pub record ExtendedAt (h : LineHeader) (bytes : List ℕ) (i : LineInstruction) (rest : List ℕ) : Type 0 where
  pub size : ℕ
  pub mid : List ℕ
  pub contents : List ℕ
  pub opcode : ℕ
  pub operands : List ℕ
  pub size_at : Uleb128At bytes size mid
  pub contents_at : SplitAt size mid contents rest
  pub split : contents ≡ opcode ∷ operands
  pub is : ExtendedIs h (h.instructions.end - length rest) opcode operands i

-- the number of operands of a standard opcode, which the header contains
abbrev pub operand_count : List ℕ → LineHeader → ℕ → ℕ
operand_count section h op = slice_index section (h.operand_counts.start + (op - 1))

-- the bytes start with the instruction. An opcode from the header's first special opcode on is a special opcode. Below it, 0 starts an extended
-- instruction, and of standard opcodes that aren't known the header says the number of operands
pub record InstructionAt (section : List ℕ) (h : LineHeader) (bytes : List ℕ) (i : LineInstruction) (rest : List ℕ) : Type 0 where
  pub opcode : ℕ
  pub operands : List ℕ
  pub split : bytes ≡ opcode ∷ operands
  pub special : h.opcode_base ≤ opcode → (i ≡ instructions.Special (opcode - h.opcode_base)) × (rest ≡ operands)
  pub extended : opcode < h.opcode_base → opcode ≡ 0 → ExtendedAt h operands i rest
  pub standard : opcode < h.opcode_base → 1 ≤ opcode → opcode ≤ 12 → StandardAt h opcode operands i rest
  pub unknown : opcode < h.opcode_base → 13 ≤ opcode → (i ≡ instructions.Other) × OperandsAt (operand_count section h opcode) operands rest

-- the bytes start with no such thing: they end in it, or a number in it is too large
abbrev pub NoOperands : ℕ → List ℕ → Type 0
NoOperands count bytes = (rest : List ℕ) → OperandsAt count bytes rest → ⊥

abbrev pub NoStandard : LineHeader → ℕ → List ℕ → Type 0
NoStandard h op bytes = (i : LineInstruction) (rest : List ℕ) → StandardAt h op bytes i rest → ⊥

abbrev pub NotExtended : LineHeader → ℕ → ℕ → List ℕ → Type 0
NotExtended h end op bytes = (i : LineInstruction) → ExtendedIs h end op bytes i → ⊥

abbrev pub NoExtended : LineHeader → List ℕ → Type 0
NoExtended h bytes = (i : LineInstruction) (rest : List ℕ) → ExtendedAt h bytes i rest → ⊥

abbrev pub NoInstruction : List ℕ → LineHeader → List ℕ → Type 0
NoInstruction section h bytes = (i : LineInstruction) (rest : List ℕ) → InstructionAt section h bytes i rest → ⊥
