-- The run of an expression (DWARF 5, section 2.5.1).
use Rattle.std.specs.Prelude.{◌≡◌, ◌⊎◌, ℕ, ◌+◌, ◌%◌, ◌^◌, ◌<◌, ◌≤◌, List, [], ◌∷◌, length, drop, Option, Result, Ok, Err}
use Rattle.code_unwind.specs.Operations.{OperationAt, NoOperation}
use Rattle.code_unwind.specs.ExpressionStack.{first_values, effect, distance_of}
use Rattle.code_unwind.specs.declared.registers.FrameRegisters.{FrameRegisters}
use Rattle.code_unwind.specs.declared.stack_copy.StackCopy.{StackCopy}
use Rattle.code_unwind.specs.declared.expression.ExpressionError.{ExpressionError}
use Rattle.code_unwind.specs.declared.expression.ExpressionError.TheVariants as errors
use Rattle.code_unwind.specs.declared.expression.Evaluator.{Evaluator}
use Rattle.code_unwind.specs.declared.operation.Operation.{Operation}

-- the number of operations that may still be carried out
abbrev pub remaining_of : Evaluator → ℕ
remaining_of e = e.remaining

-- what an expression is evaluated with
pub record Context : Type 0 where
  pub bytes : List ℕ
  pub registers : FrameRegisters
  pub copy : StackCopy

-- the offset of the next operation, the values, the top first, and the number of operations that may still be carried out
pub record Moment : Type 0 where
  pub position : ℕ
  pub stack : List ℕ
  pub remaining : ℕ

-- the operation at a moment, which may be carried out; after its bytes the offset is `after`
pub record NextAt (x : Context) (m : Moment) (op : Operation) (after : ℕ) : Type 0 where
  pub rest : List ℕ
  pub within : m.position < length x.bytes
  pub allowed : 0 < m.remaining
  pub operation_at : OperationAt (drop m.position x.bytes) op rest
  pub after_is : after + length rest ≡ length x.bytes

-- the offset after an operation and its jump
abbrev pub target_of : Operation → List ℕ → ℕ → ℕ
target_of op stack after = (after + distance_of op stack) % 2 ^ 64

-- the operation at a moment leads to the next
pub record StepsTo (x : Context) (m : Moment) (op : Operation) (n : Moment) : Type 0 where
  pub after : ℕ
  pub next : NextAt x m op after
  pub stack_is : effect x.registers x.copy op m.stack ≡ Ok n.stack
  pub position_is : n.position ≡ target_of op m.stack after
  pub within : n.position ≤ length x.bytes
  pub remaining_is : n.remaining + 1 ≡ m.remaining

-- these operations lead from one moment to another
abbrev pub RunsTo : Context → Moment → List Operation → Moment → Type 0
RunsTo x m [] n = n ≡ m
RunsTo x m (op ∷ ops) n = (k : Moment) × StepsTo x m op k × RunsTo x k ops n

-- no operation leads on from a moment before the end: too many were carried out, there is none, it fails, or it jumps outside
abbrev pub Exhausted : Context → Moment → ExpressionError → Type 0
Exhausted x m e = (m.position < length x.bytes) × (m.remaining ≡ 0) × (e ≡ errors.Bad)

abbrev pub Unreadable : Context → Moment → ExpressionError → Type 0
Unreadable x m e = (m.position < length x.bytes) × NoOperation (drop m.position x.bytes) × (e ≡ errors.Bad)

abbrev pub FailsAt : Context → Moment → ExpressionError → Type 0
FailsAt x m e = (op : Operation) × (after : ℕ) × NextAt x m op after × (effect x.registers x.copy op m.stack ≡ Err e)

abbrev pub JumpsOutside : Context → Moment → ExpressionError → Type 0
JumpsOutside x m e =
    (op : Operation) × (after : ℕ) × NextAt x m op after × (length x.bytes < target_of op m.stack after) × (e ≡ errors.Bad)

abbrev pub Stops : Context → Moment → ExpressionError → Type 0
Stops x m e = Exhausted x m e ⊎ (Unreadable x m e ⊎ (FailsAt x m e ⊎ JumpsOutside x m e))

-- the end: the value is the top, and an expression without values has none
abbrev pub EndsWith : Context → Moment → Result ℕ ExpressionError → Type 0
EndsWith x m (Ok value) = (m.position ≡ length x.bytes) × ((s : List ℕ) × (m.stack ≡ value ∷ s))
EndsWith x m (Err e) = ((m.position ≡ length x.bytes) × (m.stack ≡ []) × (e ≡ errors.Bad)) ⊎ Stops x m e

-- operations may still be carried out after a run: exactly, if it has a value
abbrev pub Spends : Moment → Result ℕ ExpressionError → ℕ → Type 0
Spends m (Ok value) remaining = remaining ≡ m.remaining
Spends m (Err e) remaining = remaining ≤ m.remaining

-- the run from a moment has this result, and leaves this number of operations
abbrev pub RunsFrom : Context → Moment → Result ℕ ExpressionError → ℕ → Type 0
RunsFrom x m result remaining = (ops : List Operation) × (n : Moment) × RunsTo x m ops n × EndsWith x n result × Spends n result remaining

-- the expression has this result
abbrev pub Evaluates : Context → Option ℕ → ℕ → Result ℕ ExpressionError → ℕ → Type 0
Evaluates x first remaining result left = RunsFrom x (record { position = 0; stack = first_values first; remaining = remaining }) result left
