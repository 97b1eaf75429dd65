-- Call frame instructions (DWARF 5, section 6.4.2 and figure 40; the GNU extensions of the Linux Standard Base).
use Rattle.std.specs.Prelude.{◌≡◌, ◌⊎◌, ℕ, ◌+◌, ◌-◌, ◌%◌, ◌/◌, ◌^◌, ◌<◌, ◌≤◌, List, ◌∷◌, length, ℤ}
use Rattle.code_cfi.specs.Numbers.{FixedAt, Uleb128At, Sleb128At, BlockAt}
use Rattle.code_cfi.specs.Pointers.{PointerAt}
use Rattle.code_cfi.specs.declared.byte_range.ByteRange.{ByteRange}
use Rattle.code_cfi.specs.declared.instruction.Machine.TheVariants as machines
use Rattle.code_cfi.specs.declared.instruction.Encoding.{Encoding}
use Rattle.code_cfi.specs.declared.instruction.Instruction.{Instruction}
use Rattle.code_cfi.specs.declared.instruction.Instruction.TheVariants as instructions

-- two unsigned LEB128 numbers
pub record PairAt (bytes : List ℕ) (m n : ℕ) (rest : List ℕ) : Type 0 where
  pub mid : List ℕ
  pub first : Uleb128At bytes m mid
  pub second : Uleb128At mid n rest

-- an unsigned and a signed LEB128 number
pub record SignedPairAt (bytes : List ℕ) (m : ℕ) (n : ℤ) (rest : List ℕ) : Type 0 where
  pub mid : List ℕ
  pub first : Uleb128At bytes m mid
  pub second : Sleb128At mid n rest

-- an expression: a block, the bytes after which end at the offset `end`
pub record ExpressionAt (end : ℕ) (bytes : List ℕ) (span : ByteRange) (rest : List ℕ) : Type 0 where
  pub block : List ℕ
  pub block_at : BlockAt bytes block rest
  pub ends : span.end + length rest ≡ end
  pub starts : span.start + length block ≡ span.end

-- an unsigned LEB128 number and an expression
pub record RegisterExpressionAt (end : ℕ) (bytes : List ℕ) (n : ℕ) (span : ByteRange) (rest : List ℕ) : Type 0 where
  pub mid : List ℕ
  pub first : Uleb128At bytes n mid
  pub second : ExpressionAt end mid span rest

-- the operands after an opcode below 64, for each instruction: `DW_CFA_advance_loc1`, `2` and `4` are 2, 3 and 4, and so on
abbrev pub OperandsAt : Encoding → ℕ → List ℕ → Instruction → List ℕ → Type 0
OperandsAt e op bytes instructions.Nop rest =
    ((op ≡ 0) × (rest ≡ bytes)) ⊎ (((op ≡ 45) × (e.machine ≡ machines.AArch64) × (rest ≡ bytes)) ⊎ ((op ≡ 46) × ((n : ℕ) × Uleb128At bytes n rest)))
OperandsAt e op bytes (instructions.Advance n) rest =
    ((op ≡ 2) × FixedAt 1 bytes n rest) ⊎ (((op ≡ 3) × FixedAt 2 bytes n rest) ⊎ ((op ≡ 4) × FixedAt 4 bytes n rest))
OperandsAt e op bytes (instructions.SetLocation a) rest = (op ≡ 1) × PointerAt e.pointers ((e.address + (e.end - length bytes)) % 2 ^ 64) bytes a rest
OperandsAt e op bytes (instructions.Offset r n) rest = (op ≡ 5) × PairAt bytes r n rest
OperandsAt e op bytes (instructions.Restore r) rest = (op ≡ 6) × Uleb128At bytes r rest
OperandsAt e op bytes (instructions.Undefined r) rest = (op ≡ 7) × Uleb128At bytes r rest
OperandsAt e op bytes (instructions.SameValue r) rest = (op ≡ 8) × Uleb128At bytes r rest
OperandsAt e op bytes (instructions.Register r s) rest = (op ≡ 9) × PairAt bytes r s rest
OperandsAt e op bytes instructions.RememberState rest = (op ≡ 10) × (rest ≡ bytes)
OperandsAt e op bytes instructions.RestoreState rest = (op ≡ 11) × (rest ≡ bytes)
OperandsAt e op bytes (instructions.DefineCfa r n) rest = (op ≡ 12) × PairAt bytes r n rest
OperandsAt e op bytes (instructions.DefineCfaRegister r) rest = (op ≡ 13) × Uleb128At bytes r rest
OperandsAt e op bytes (instructions.DefineCfaOffset n) rest = (op ≡ 14) × Uleb128At bytes n rest
OperandsAt e op bytes (instructions.DefineCfaExpression s) rest = (op ≡ 15) × ExpressionAt e.end bytes s rest
OperandsAt e op bytes (instructions.Expression r s) rest = (op ≡ 16) × RegisterExpressionAt e.end bytes r s rest
OperandsAt e op bytes (instructions.OffsetSigned r n) rest = (op ≡ 17) × SignedPairAt bytes r n rest
OperandsAt e op bytes (instructions.DefineCfaSigned r n) rest = (op ≡ 18) × SignedPairAt bytes r n rest
OperandsAt e op bytes (instructions.DefineCfaOffsetSigned n) rest = (op ≡ 19) × Sleb128At bytes n rest
OperandsAt e op bytes (instructions.ValueOffset r n) rest = (op ≡ 20) × PairAt bytes r n rest
OperandsAt e op bytes (instructions.ValueOffsetSigned r n) rest = (op ≡ 21) × SignedPairAt bytes r n rest
OperandsAt e op bytes (instructions.ValueExpression r s) rest = (op ≡ 22) × RegisterExpressionAt e.end bytes r s rest
OperandsAt e op bytes (instructions.OffsetNegative r n) rest = (op ≡ 47) × PairAt bytes r n rest

-- the operands after a byte whose high two bits are not 0, the low six of which are the first operand
abbrev pub ShortAt : ℕ → ℕ → List ℕ → Instruction → List ℕ → Type 0
ShortAt high low bytes (instructions.Advance n) rest = (high ≡ 1) × (n ≡ low) × (rest ≡ bytes)
ShortAt high low bytes (instructions.Offset r n) rest = (high ≡ 2) × (r ≡ low) × Uleb128At bytes n rest
ShortAt high low bytes (instructions.Restore r) rest = (high ≡ 3) × (r ≡ low) × (rest ≡ bytes)
ShortAt high low bytes _ rest = ⊥

-- the bytes start with the instruction
pub record InstructionAt (e : Encoding) (bytes : List ℕ) (i : Instruction) (rest : List ℕ) : Type 0 where
  pub opcode : ℕ
  pub operands : List ℕ
  pub split : bytes ≡ opcode ∷ operands
  pub whole : opcode < 64 → OperandsAt e opcode operands i rest
  pub short : 64 ≤ opcode → ShortAt (opcode / 64) (opcode % 64) operands i rest
