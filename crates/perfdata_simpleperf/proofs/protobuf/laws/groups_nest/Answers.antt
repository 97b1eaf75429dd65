use Rattle.perfdata_simpleperf.proofs.Decoding.GroupNesting.{group_from, group_nests}
use Rattle.perfdata_simpleperf.proofs.protobuf.laws.groups_nest.Goals as goal

pub returns-clause-nests : goal.returns-clause-nests
returns-clause-nests c = group_nests

pub returns-clause-all : goal.returns-clause-all
returns-clause-all c = group_from
