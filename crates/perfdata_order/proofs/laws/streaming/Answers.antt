use Rattle.perfdata_order.proofs.StreamingSteps.{returns_each_record_once, reads_records_of_source, calls_sorter_in_turn}
use Rattle.perfdata_order.proofs.StreamingBlocks.{has_few_blocks}
use Rattle.perfdata_order.proofs.StreamingBudget.{counts_early, none_early_without_budget, remains_within_budget}
use Rattle.perfdata_order.proofs.StreamingRounds.{holds_two_rounds}
use Rattle.perfdata_order.proofs.StreamingRule.{times_ascend_under_perf_rule}
use Rattle.perfdata_order.proofs.StreamingEnds.{returns_released_before_reading}
use Rattle.perfdata_order.proofs.laws.streaming.Goals as goal

pub returns-clause-each_once : goal.returns-clause-each_once
returns-clause-each_once g c = returns_each_record_once g.R.Source.state

pub returns-clause-of_source : goal.returns-clause-of_source
returns-clause-of_source g c = reads_records_of_source g.R.Source.state

pub returns-clause-sorter_calls : goal.returns-clause-sorter_calls
returns-clause-sorter_calls g c = calls_sorter_in_turn g.R.Source.state

pub returns-clause-released_before_reading : goal.returns-clause-released_before_reading
returns-clause-released_before_reading g c = returns_released_before_reading g.R.Source.state

pub returns-clause-times_ascend : goal.returns-clause-times_ascend
returns-clause-times_ascend g c = times_ascend_under_perf_rule g.R.Source.state c.offsets_increase.ensures

pub returns-clause-counts_early : goal.returns-clause-counts_early
returns-clause-counts_early g c = counts_early g.R.Source.state

pub returns-clause-none_early_without_budget : goal.returns-clause-none_early_without_budget
returns-clause-none_early_without_budget g c = none_early_without_budget g.R.Source.state

pub returns-clause-within_budget : goal.returns-clause-within_budget
returns-clause-within_budget g c = remains_within_budget g.R.Source.state

pub returns-clause-two_rounds : goal.returns-clause-two_rounds
returns-clause-two_rounds g c = holds_two_rounds g.R.Source.state c.offsets_increase.ensures

pub returns-clause-few_blocks : goal.returns-clause-few_blocks
returns-clause-few_blocks g c = has_few_blocks g.R.Source.state
