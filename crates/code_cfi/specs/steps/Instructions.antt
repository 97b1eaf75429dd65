-- Steps of private functions: call frame instructions (DWARF 5, section 6.4.2 and figure 40; the GNU extensions of the Linux Standard Base).
use Rattle.std.specs.Prelude.{◌==◌, ◌||◌, Bool, ℕ, ◌-◌, List, ℤ}
use Rattle.code_cfi.specs.declared.byte_range.ByteRange.{ByteRange}
use Rattle.code_cfi.specs.declared.instruction.Encoding.{Encoding}
use Rattle.code_cfi.specs.declared.instruction.Instruction.{Instruction}
use Rattle.code_cfi.specs.declared.instruction.Instruction.TheVariants as instructions
use Rattle.code_cfi.specs.Instructions.{PairAt, SignedPairAt, ExpressionAt, RegisterExpressionAt, OperandsAt, InstructionAt}

-- the bytes start with no such operands, or with no instruction: they end in it, a number doesn't fit, or the opcode is unknown
abbrev pub NoPair : List ℕ → Type 0
NoPair bytes = (m n : ℕ) (rest : List ℕ) → PairAt bytes m n rest → ⊥

abbrev pub NoSignedPair : List ℕ → Type 0
NoSignedPair bytes = (m : ℕ) (n : ℤ) (rest : List ℕ) → SignedPairAt bytes m n rest → ⊥

abbrev pub NoExpression : ℕ → List ℕ → Type 0
NoExpression end bytes = (span : ByteRange) (rest : List ℕ) → ExpressionAt end bytes span rest → ⊥

abbrev pub NoRegisterExpression : ℕ → List ℕ → Type 0
NoRegisterExpression end bytes = (n : ℕ) (span : ByteRange) (rest : List ℕ) → RegisterExpressionAt end bytes n span rest → ⊥

abbrev pub NoOperands : Encoding → ℕ → List ℕ → Type 0
NoOperands e op bytes = (i : Instruction) (rest : List ℕ) → OperandsAt e op bytes i rest → ⊥

abbrev pub NoInstruction : Encoding → List ℕ → Type 0
NoInstruction e bytes = (i : Instruction) (rest : List ℕ) → InstructionAt e bytes i rest → ⊥

-- the opcodes of instructions that change the location, define the CFA, say where the value of a register is, and how it is computed
abbrev pub is_location : ℕ → Bool
is_location op = (op == 1) || ((op == 2) || ((op == 3) || (op == 4)))

abbrev pub is_cfa : ℕ → Bool
is_cfa op = (op == 12) || ((op == 13) || ((op == 14) || ((op == 15) || ((op == 18) || (op == 19)))))

abbrev pub is_rule : ℕ → Bool
is_rule op = (op == 5) || ((op == 7) || ((op == 8) || ((op == 9) || ((op == 16) || ((op == 17) || (op == 47))))))

abbrev pub is_value_rule : ℕ → Bool
is_value_rule op = (op == 20) || ((op == 21) || (op == 22))
