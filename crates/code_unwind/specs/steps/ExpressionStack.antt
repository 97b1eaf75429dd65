-- Steps of private functions: the values of an expression, and what operations do to them (DWARF 5, section 2.5.1). Values are modulo 2 ^ 64.
use Rattle.std.specs.Prelude.{◌≡◌, ℕ, ◌-◌, List, reverse, Result, Ok, Err}
use Rattle.code_unwind.specs.declared.expression.ExpressionError.{ExpressionError}
use Rattle.code_unwind.specs.declared.values.ExpressionStack.{ExpressionStack}

-- the values, the top first
abbrev pub stack_of : ExpressionStack → List ℕ
stack_of v = reverse v.items.items

-- what a call that changes the stack returns, and leaves
abbrev pub Leaves : Result (List ℕ) ExpressionError → List ℕ → Result Unit ExpressionError → Type 0
Leaves (Ok s) new (Ok u) = new ≡ s
Leaves (Err e) new (Err f) = f ≡ e
Leaves _ new result = ⊥
