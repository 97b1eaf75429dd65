use Rattle.perfdata_order.proofs.InMemorySteps.{returns_each_record_once, reads_records_of_input, calls_sorter_in_turn}
use Rattle.perfdata_order.proofs.InMemoryRounds.{holds_two_rounds}
use Rattle.perfdata_order.proofs.PerfRule.{times_ascend_under_perf_rule}
use Rattle.perfdata_order.proofs.laws.in_memory.Goals as goal

pub returns-clause-each_once : goal.returns-clause-each_once
returns-clause-each_once c = returns_each_record_once

pub returns-clause-of_input : goal.returns-clause-of_input
returns-clause-of_input c = reads_records_of_input

pub returns-clause-sorter_calls : goal.returns-clause-sorter_calls
returns-clause-sorter_calls c = calls_sorter_in_turn

pub returns-clause-times_ascend : goal.returns-clause-times_ascend
returns-clause-times_ascend c = times_ascend_under_perf_rule c.offsets_increase.ensures

pub returns-clause-two_rounds : goal.returns-clause-two_rounds
returns-clause-two_rounds c = holds_two_rounds c.offsets_increase.ensures
