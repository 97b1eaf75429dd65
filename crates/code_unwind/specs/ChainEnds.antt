-- The ends of chains: their names, and what there is unless a chain ends.
use Rattle.std.specs.Prelude.{ℕ, List, codes}
use Rattle.code_unwind.specs.declared.frame.ChainEnd.{ChainEnd}
use Rattle.code_unwind.specs.declared.frame.ChainEnd.TheVariants as ends

abbrev pub chain_end_name : ChainEnd → List ℕ
chain_end_name ends.Root = codes "root"
chain_end_name ends.Truncated = codes "truncated"
chain_end_name ends.Outside = codes "outside"
chain_end_name ends.NoCfi = codes "no-cfi"
chain_end_name ends.BadCfi = codes "bad-cfi"
chain_end_name ends.Stuck = codes "stuck"
chain_end_name ends.Limit = codes "limit"
chain_end_name ends.OtherAbi = codes "other-abi"
chain_end_name ends.None = codes "none"
