use Rattle.std.proofs.Common.{arith, rules}
use Rattle.std.proofs.lemmas.List.Sorted.{IsNonDecreasingBy-from_sort_by_key}
use Rattle.code_symbols.proofs.jit.JitSymbols.read.Goals as goal

pub invariant_of-result : goal.invariant_of-result
invariant_of-result g c = record {
  sorted = IsNonDecreasingBy-from_sort_by_key (λ l. l.time) _ c.in_ok-sort_by_key.ensures.sorted (λ a r q k. search rules);
  within = omega arith;
  shown = c.new-5.ensures.symbols;
}
