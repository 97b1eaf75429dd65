-- The operations of expressions, as they are in bytes (DWARF 5, sections 2.5.1 and 7.7.1).
use Rattle.std.specs.Prelude.{◌≡◌, ℕ, ◌+◌, ◌-◌, ◌/◌, ◌%◌, ◌^◌, ◌<◌, ◌==◌, ◌&&◌, List, ◌∷◌, ℤ, Option, Some, None, if◌then◌else◌, nat_lt, nat_le, FitsSigned}
use Rattle.std.specs.Option.{option_or, option_map}
use Rattle.std.specs.Int.{cast_unsigned, w64}
use Rattle.code_cfi.specs.Numbers.{FixedAt, Uleb128At, Sleb128At}
use Rattle.code_unwind.specs.declared.operation.UnaryOperation.{UnaryOperation}
use Rattle.code_unwind.specs.declared.operation.UnaryOperation.TheVariants as unary
use Rattle.code_unwind.specs.declared.operation.Comparison.{Comparison}
use Rattle.code_unwind.specs.declared.operation.Comparison.TheVariants as comparisons
use Rattle.code_unwind.specs.declared.operation.BinaryOperation.{BinaryOperation}
use Rattle.code_unwind.specs.declared.operation.BinaryOperation.TheVariants as binary
use Rattle.code_unwind.specs.declared.operation.Operation.{Operation}
use Rattle.code_unwind.specs.declared.operation.Operation.TheVariants as operations
use Rattle.code_unwind.specs.declared.operation.Number.{Number}
use Rattle.code_unwind.specs.declared.operation.Number.TheVariants as numbers
use Rattle.code_unwind.specs.declared.operation.Operands.{Operands}
use Rattle.code_unwind.specs.declared.operation.Operands.TheVariants as forms

-- the operations on two values, by opcode
abbrev pub binary_opcode : ℕ → Option BinaryOperation
binary_opcode op =
    if op == 0x1a then Some binary.And else
    if op == 0x1b then Some binary.Divide else
    if op == 0x1c then Some binary.Minus else
    if op == 0x1d then Some binary.Modulo else
    if op == 0x1e then Some binary.Multiply else
    if op == 0x21 then Some binary.Or else
    if op == 0x22 then Some binary.Plus else
    if op == 0x24 then Some binary.ShiftLeft else
    if op == 0x25 then Some binary.ShiftRight else
    if op == 0x26 then Some binary.ShiftRightArithmetic else
    if op == 0x27 then Some binary.Xor else None

-- the comparisons, by opcode
abbrev pub comparison_opcode : ℕ → Option Comparison
comparison_opcode op =
    if op == 0x29 then Some comparisons.Equal else
    if op == 0x2a then Some comparisons.GreaterOrEqual else
    if op == 0x2b then Some comparisons.Greater else
    if op == 0x2c then Some comparisons.LessOrEqual else
    if op == 0x2d then Some comparisons.Less else
    if op == 0x2e then Some comparisons.NotEqual else None

-- the operations on one value that have no operands
abbrev pub unary_opcode : ℕ → Option UnaryOperation
unary_opcode op =
    if op == 0x06 then Some (unary.Dereference 8) else
    if op == 0x19 then Some unary.Absolute else
    if op == 0x1f then Some unary.Negate else
    if op == 0x20 then Some unary.Not else None

-- the other operations that have no operands: `DW_OP_dup` is `DW_OP_pick` 0, `DW_OP_over` is `DW_OP_pick` 1
abbrev pub other_opcode : ℕ → Option Operation
other_opcode op =
    if op == 0x12 then Some (operations.Pick 0) else
    if op == 0x13 then Some operations.Drop else
    if op == 0x14 then Some (operations.Pick 1) else
    if op == 0x16 then Some operations.Swap else
    if op == 0x17 then Some operations.Rotate else
    if op == 0x96 then Some operations.Nop else
    if nat_le 0x30 op && nat_le op 0x4f then Some (operations.Literal (op - 0x30)) else None

-- the constants, by opcode
abbrev pub constant_opcode : ℕ → Option Number
constant_opcode op =
    if op == 0x03 then Some numbers.Whole64 else
    if op == 0x08 then Some numbers.Unsigned8 else
    if op == 0x09 then Some numbers.Signed8 else
    if op == 0x0a then Some numbers.Unsigned16 else
    if op == 0x0b then Some numbers.Signed16 else
    if op == 0x0c then Some numbers.Unsigned32 else
    if op == 0x0d then Some numbers.Signed32 else
    if op == 0x0e then Some numbers.Whole64 else
    if op == 0x0f then Some numbers.Whole64 else
    if op == 0x10 then Some numbers.Uleb128 else
    if op == 0x11 then Some numbers.Sleb128 else None

-- the other operations that have operands
abbrev pub operand_opcode : ℕ → Option Operands
operand_opcode op =
    if op == 0x15 then Some forms.Index else
    if op == 0x23 then Some forms.AddConstant else
    if op == 0x28 then Some forms.Branch else
    if op == 0x2f then Some forms.Skip else
    if op == 0x92 then Some forms.RegisterOffset else
    if op == 0x94 then Some forms.Size else
    if nat_le 0x70 op && nat_le op 0x8f then Some (forms.Offset (op - 0x70)) else None

-- what follows an opcode
abbrev pub form_of : ℕ → Option Operands
form_of op =
    option_or (option_map (λ o. forms.Plain (operations.Binary o)) (binary_opcode op))
    (option_or (option_map (λ o. forms.Plain (operations.Binary (binary.Compare o))) (comparison_opcode op))
    (option_or (option_map (λ o. forms.Plain (operations.Unary o)) (unary_opcode op))
    (option_or (option_map forms.Plain (other_opcode op))
    (option_or (option_map forms.Literal (constant_opcode op)) (operand_opcode op)))))

-- the value modulo 2 ^ 64 of a number below `limit` whose upper half is negative
abbrev pub sign_extended : ℕ → ℕ → ℕ
sign_extended limit n = (if nat_lt n (limit / 2) then n else (n + (2 ^ 64 - limit)) % 2 ^ 64)

-- the bytes start with a number of `size` bytes that has a sign
abbrev pub SignedAt : ℕ → List ℕ → ℕ → List ℕ → Type 0
SignedAt size bytes n rest = (m : ℕ) × FixedAt size bytes m rest × (n ≡ sign_extended (256 ^ size) m)

-- the bytes start with the number, which is modulo 2 ^ 64
abbrev pub NumberAt : Number → List ℕ → ℕ → List ℕ → Type 0
NumberAt numbers.Unsigned8 bytes n rest = FixedAt 1 bytes n rest
NumberAt numbers.Unsigned16 bytes n rest = FixedAt 2 bytes n rest
NumberAt numbers.Unsigned32 bytes n rest = FixedAt 4 bytes n rest
NumberAt numbers.Whole64 bytes n rest = FixedAt 8 bytes n rest
NumberAt numbers.Signed8 bytes n rest = SignedAt 1 bytes n rest
NumberAt numbers.Signed16 bytes n rest = SignedAt 2 bytes n rest
NumberAt numbers.Signed32 bytes n rest = SignedAt 4 bytes n rest
NumberAt numbers.Uleb128 bytes n rest = Uleb128At bytes n rest × (n < 2 ^ 64)
NumberAt numbers.Sleb128 bytes n rest = (z : ℤ) × Sleb128At bytes z rest × FitsSigned w64 z × (n ≡ cast_unsigned w64 z)

-- the operands and the operation
abbrev pub OperandsAt : Operands → List ℕ → Operation → List ℕ → Type 0
OperandsAt (forms.Plain o) bytes op rest = (op ≡ o) × (rest ≡ bytes)
OperandsAt (forms.Literal k) bytes op rest = (n : ℕ) × NumberAt k bytes n rest × (op ≡ operations.Literal n)
OperandsAt (forms.Offset r) bytes op rest = (n : ℕ) × NumberAt numbers.Sleb128 bytes n rest × (op ≡ operations.Register r n)
OperandsAt forms.RegisterOffset bytes op rest =
    (r : ℕ) × (mid : List ℕ) × (n : ℕ) × NumberAt numbers.Uleb128 bytes r mid × NumberAt numbers.Sleb128 mid n rest × (op ≡ operations.Register r n)
OperandsAt forms.Index bytes op rest = (n : ℕ) × NumberAt numbers.Unsigned8 bytes n rest × (op ≡ operations.Pick n)
OperandsAt forms.Size bytes op rest = (n : ℕ) × NumberAt numbers.Unsigned8 bytes n rest × (op ≡ operations.Unary (unary.Dereference n))
OperandsAt forms.AddConstant bytes op rest = (n : ℕ) × NumberAt numbers.Uleb128 bytes n rest × (op ≡ operations.Unary (unary.AddConstant n))
OperandsAt forms.Branch bytes op rest = (n : ℕ) × NumberAt numbers.Signed16 bytes n rest × (op ≡ operations.Branch n)
OperandsAt forms.Skip bytes op rest = (n : ℕ) × NumberAt numbers.Signed16 bytes n rest × (op ≡ operations.Skip n)

-- the bytes start with the operation
pub record OperationAt (bytes : List ℕ) (op : Operation) (rest : List ℕ) : Type 0 where
  pub opcode : ℕ
  pub operands : List ℕ
  pub form : Operands
  pub split : bytes ≡ opcode ∷ operands
  pub form_is : form_of opcode ≡ Some form
  pub operands_at : OperandsAt form operands op rest

abbrev pub NoOperation : List ℕ → Type 0
NoOperation bytes = (op : Operation) (rest : List ℕ) → OperationAt bytes op rest → ⊥
