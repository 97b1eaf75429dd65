-- Steps of private functions: the ends of chains: their names, and what there is unless a chain ends.
use Rattle.std.specs.Prelude.{Result, Ok, Err}
use Rattle.code_unwind.specs.declared.frame.ChainEnd.{ChainEnd}
use Rattle.code_unwind.specs.declared.frame.ChainEnd.TheVariants as ends

-- a value that there is unless the chain ends
abbrev pub value_in : {A : Type 0} → Result (Unit {0}) ChainEnd → A → Result A ChainEnd
value_in (Ok is) value = Ok value
value_in (Err e) value = Err e
