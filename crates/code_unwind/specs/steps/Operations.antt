-- Steps of private functions: the operations of expressions, as they are in bytes (DWARF 5, sections 2.5.1 and 7.7.1).
use Rattle.std.specs.Prelude.{ℕ, ◌-◌, List}
use Rattle.code_unwind.specs.declared.operation.Operation.{Operation}
use Rattle.code_unwind.specs.declared.operation.Number.{Number}
use Rattle.code_unwind.specs.declared.operation.Operands.{Operands}
use Rattle.code_unwind.specs.Operations.{NumberAt, OperandsAt}

-- the bytes start with no number, no operands, or no operation
abbrev pub NoNumber : Number → List ℕ → Type 0
NoNumber k bytes = (n : ℕ) (rest : List ℕ) → NumberAt k bytes n rest → ⊥

abbrev pub NoOperands : Operands → List ℕ → Type 0
NoOperands form bytes = (op : Operation) (rest : List ℕ) → OperandsAt form bytes op rest → ⊥
