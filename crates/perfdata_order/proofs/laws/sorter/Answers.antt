use Rattle.perfdata_order.proofs.SorterCalls.{returns_each_once, keeps_insertion_order}
use Rattle.perfdata_order.proofs.AscendingRuns.{runs_ascend}
use Rattle.perfdata_order.proofs.RoundRule.{ascends_under_rule}
use Rattle.perfdata_order.proofs.SorterSlots.{has_few_slots}
use Rattle.perfdata_order.proofs.laws.sorter.Goals as goal

pub returns-clause-each_once : goal.returns-clause-each_once
returns-clause-each_once g c = returns_each_once _ g.K.Ord.cmp

pub returns-clause-insertion_order : goal.returns-clause-insertion_order
returns-clause-insertion_order g c = keeps_insertion_order _ g.K.Ord.cmp

pub returns-clause-runs_ascend : goal.returns-clause-runs_ascend
returns-clause-runs_ascend g c = runs_ascend _ g.K.Ord.cmp

pub returns-clause-ascends_under_rule : goal.returns-clause-ascends_under_rule
returns-clause-ascends_under_rule g c = ascends_under_rule _ g.met.K.Ord.total

pub returns-clause-few_slots : goal.returns-clause-few_slots
returns-clause-few_slots g c = has_few_slots _ g.K.Ord.cmp
