-- The values of an expression, and what operations do to them (DWARF 5, section 2.5.1). Values are modulo 2 ^ 64.
use Rattle.std.specs.Prelude.{ℕ, ℤ, ◌+◌, ◌-◌, ◌*◌, ◌/◌, ◌%◌, ◌^◌, ◌==◌, ◌&&◌, List, [], ◌∷◌, length, Bool, true, false, Option, Some, None, Result, Ok, Err, if◌then◌else◌, nat_lt, nat_le, min, slice_get, bit_and, bit_or, bit_xor, int_lt, int_le, int_div, unsigned_abs}
use Rattle.std.specs.Option.{option_map}
use Rattle.std.specs.Ordering.{int_eq}
use Rattle.std.specs.Int.{cast_signed, cast_unsigned, int_shr, w64}
use Rattle.code_unwind.specs.Stacks.{register_of, word_of}
use Rattle.code_unwind.specs.declared.registers.FrameRegisters.{FrameRegisters}
use Rattle.code_unwind.specs.declared.stack_copy.StackCopy.{StackCopy}
use Rattle.code_unwind.specs.declared.expression.ExpressionError.{ExpressionError}
use Rattle.code_unwind.specs.declared.expression.ExpressionError.TheVariants as errors
use Rattle.code_unwind.specs.declared.operation.UnaryOperation.{UnaryOperation}
use Rattle.code_unwind.specs.declared.operation.UnaryOperation.TheVariants as unary
use Rattle.code_unwind.specs.declared.operation.Comparison.{Comparison}
use Rattle.code_unwind.specs.declared.operation.Comparison.TheVariants as comparisons
use Rattle.code_unwind.specs.declared.operation.BinaryOperation.{BinaryOperation}
use Rattle.code_unwind.specs.declared.operation.BinaryOperation.TheVariants as binary
use Rattle.code_unwind.specs.declared.operation.Operation.{Operation}
use Rattle.code_unwind.specs.declared.operation.Operation.TheVariants as operations

-- the values before the first operation
abbrev pub first_values : Option ℕ → List ℕ
first_values None = []
first_values (Some value) = value ∷ []

-- a result with an error at None
abbrev pub or_bad : Option ℕ → Result ℕ ExpressionError
or_bad None = Err errors.Bad
or_bad (Some n) = Ok n

abbrev pub or_truncated : Option ℕ → Result ℕ ExpressionError
or_truncated None = Err errors.Truncated
or_truncated (Some n) = Ok n

-- the value with its sign
abbrev pub signed : ℕ → ℤ
signed n = cast_signed w64 n

-- whether a comparison holds
abbrev pub holds : Comparison → ℤ → ℤ → Bool
holds comparisons.Equal x y = int_eq x y
holds comparisons.GreaterOrEqual x y = int_le y x
holds comparisons.Greater x y = int_lt y x
holds comparisons.LessOrEqual x y = int_le x y
holds comparisons.Less x y = int_lt x y
holds comparisons.NotEqual x y = (if int_eq x y then false else true)

-- the value of an operation on the two values on top; those of a division by 0 have none
abbrev pub binary_value : BinaryOperation → ℕ → ℕ → Option ℕ
binary_value binary.And a b = Some (bit_and a b)
binary_value binary.Divide a b = (if b == 0 then None else Some (cast_unsigned w64 (int_div (signed a) (signed b))))
binary_value binary.Minus a b = Some ((a + (2 ^ 64 - b)) % 2 ^ 64)
binary_value binary.Modulo a b = (if b == 0 then None else Some (a % b))
binary_value binary.Multiply a b = Some (a * b % 2 ^ 64)
binary_value binary.Or a b = Some (bit_or a b)
binary_value binary.Plus a b = Some ((a + b) % 2 ^ 64)
binary_value binary.ShiftLeft a b = Some (if nat_lt b 64 then a * 2 ^ b % 2 ^ 64 else 0)
binary_value binary.ShiftRight a b = Some (if nat_lt b 64 then a / 2 ^ b else 0)
binary_value binary.ShiftRightArithmetic a b = Some (cast_unsigned w64 (int_shr (signed a) (min b 63)))
binary_value binary.Xor a b = Some (bit_xor a b)
binary_value (binary.Compare c) a b = Some (if holds c (signed a) (signed b) then 1 else 0)

-- the value of an operation on the value on top
abbrev pub unary_value : StackCopy → UnaryOperation → ℕ → Result ℕ ExpressionError
unary_value c (unary.Dereference size) a = (if nat_lt 0 size && nat_le size 8 then or_truncated (word_of c a size) else Err errors.Bad)
unary_value c unary.Absolute a = Ok (unsigned_abs (signed a))
unary_value c unary.Negate a = Ok ((2 ^ 64 - a) % 2 ^ 64)
unary_value c unary.Not a = Ok (2 ^ 64 - 1 - a)
unary_value c (unary.AddConstant n) a = Ok ((a + n) % 2 ^ 64)

-- a value is pushed, if there is one and at most 64 are then on the stack
abbrev pub pushed : Result ℕ ExpressionError → List ℕ → Result (List ℕ) ExpressionError
pushed (Err e) s = Err e
pushed (Ok n) s = (if nat_lt (length s) 64 then Ok (n ∷ s) else Err errors.Bad)

-- a value takes the place of those that the operation removed
abbrev pub replaced : Result ℕ ExpressionError → List ℕ → Result (List ℕ) ExpressionError
replaced (Err e) s = Err e
replaced (Ok n) s = Ok (n ∷ s)

abbrev pub with_unary : StackCopy → UnaryOperation → List ℕ → Result (List ℕ) ExpressionError
with_unary c o [] = Err errors.Bad
with_unary c o (a ∷ s) = replaced (unary_value c o a) s

abbrev pub with_binary : BinaryOperation → List ℕ → Result (List ℕ) ExpressionError
with_binary o [] = Err errors.Bad
with_binary o (b ∷ []) = Err errors.Bad
with_binary o (b ∷ a ∷ s) = replaced (or_bad (binary_value o a b)) s

abbrev pub dropped : List ℕ → Result (List ℕ) ExpressionError
dropped [] = Err errors.Bad
dropped (a ∷ s) = Ok s

abbrev pub swapped : List ℕ → Result (List ℕ) ExpressionError
swapped [] = Err errors.Bad
swapped (a ∷ []) = Err errors.Bad
swapped (a ∷ b ∷ s) = Ok (b ∷ a ∷ s)

abbrev pub rotated : List ℕ → Result (List ℕ) ExpressionError
rotated [] = Err errors.Bad
rotated (a ∷ []) = Err errors.Bad
rotated (a ∷ b ∷ []) = Err errors.Bad
rotated (a ∷ b ∷ c ∷ s) = Ok (b ∷ c ∷ a ∷ s)

-- the stack after an operation
abbrev pub effect : FrameRegisters → StackCopy → Operation → List ℕ → Result (List ℕ) ExpressionError
effect r c (operations.Literal n) s = pushed (Ok n) s
effect r c (operations.Register k n) s = pushed (or_bad (option_map (λ x. (x + n) % 2 ^ 64) (register_of r k))) s
effect r c (operations.Pick i) s = pushed (or_bad (slice_get s i)) s
effect r c (operations.Unary o) s = with_unary c o s
effect r c (operations.Binary o) s = with_binary o s
effect r c operations.Drop s = dropped s
effect r c operations.Swap s = swapped s
effect r c operations.Rotate s = rotated s
effect r c (operations.Branch n) s = dropped s
effect r c (operations.Skip n) s = Ok s
effect r c operations.Nop s = Ok s

-- how far an operation jumps
abbrev pub branch_distance : ℕ → List ℕ → ℕ
branch_distance n [] = 0
branch_distance n (a ∷ s) = (if a == 0 then 0 else n)

abbrev pub distance_of : Operation → List ℕ → ℕ
distance_of (operations.Branch n) s = branch_distance n s
distance_of (operations.Skip n) s = n
distance_of _ s = 0
