use Rattle.linux_perf_data.proofs.ConsistencyLemmas.{consistent_or_not, inconsistency_is_unique, consistent_not_inconsistent}
use Rattle.linux_perf_data.proofs.laws.consistent_or_first_inconsistency.Goals as goal

pub returns : goal.returns
returns c = record {
  consistent_or_not = λ attrs. consistent_or_not attrs;
  one_inconsistency = λ attrs b c x y. (inconsistency_is_unique attrs b c x y, λ rule. consistent_not_inconsistent attrs b rule x);
}
