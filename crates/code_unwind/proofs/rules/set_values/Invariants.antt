use Rattle.code_unwind.specs.Expressions.{remaining_of}
use Rattle.code_unwind.specs.Rules.{ValuesBelow}
use Rattle.code_unwind.proofs.rules.set_values.Given as goal

abbrev pub invariant-registers : goal.invariant-registers
invariant-registers l = ValuesBelow l.callee l.found l.cfa l.register (remaining_of l.fn.evaluator) l.caller (remaining_of l.evaluator)
