-- Steps of private functions: the run of an expression (DWARF 5, section 2.5.1).
use Rattle.std.specs.Prelude.{ℕ}
use Rattle.code_unwind.specs.steps.ExpressionStack.{stack_of}
use Rattle.code_unwind.specs.declared.expression.Evaluator.{Evaluator}
use Rattle.code_unwind.specs.Expressions.{Moment}

-- what an evaluator has at an offset
abbrev pub moment_at : Evaluator → ℕ → Moment
moment_at e position = record { position = position; stack = stack_of e.values; remaining = e.remaining }
