use Rattle.std.proofs.Common.{ℕ, ◌-◌, ◌≤◌, length, Result}
use Rattle.code_unwind.specs.Expressions.{remaining_of, RunsFrom, Evaluates}
use Rattle.code_unwind.specs.steps.Expressions.{moment_at}
use Rattle.code_unwind.specs.declared.expression.ExpressionError.{ExpressionError}
use Rattle.code_unwind.proofs.expression.Evaluator.evaluate.Given as goal

-- what the operations that are left lead to, the whole expression leads to
abbrev pub invariant-operations : goal.invariant-operations
invariant-operations l = record {
  within : l.position ≤ length l.bytes;
  leads : (r : Result ℕ ExpressionError) (left : ℕ) → RunsFrom (record { bytes = l.bytes; registers = l.registers; copy = l.copy }) (moment_at l.self l.position) r left → Evaluates (record { bytes = l.bytes; registers = l.registers; copy = l.copy }) l.fn.first (remaining_of l.fn.self) r left;
}

abbrev pub decreases-operations : goal.decreases-operations
decreases-operations l = remaining_of l.self
