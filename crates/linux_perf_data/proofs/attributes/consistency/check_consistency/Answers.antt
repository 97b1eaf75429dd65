use Rattle.std.proofs.Common.{◌<◌, length, rules}
use Rattle.linux_perf_data.proofs.ConsistencyChecks.{agreeing_is_consistent, disagreeing_is_inconsistent}
use Rattle.linux_perf_data.proofs.attributes.consistency.check_consistency.Goals as goal

pub returns-then-id_offsets_agree : goal.returns-then-id_offsets_agree
returns-then-id_offsets_agree c =
    let some : 0 < length c.args.attributes.now = search rules in
    agreeing_is_consistent c.args.attributes.now c.index-attributes-0.result some c.index-attributes-0.is c.if-id_offsets_agree.ensures

pub returns : goal.returns
returns c =
    let some : 0 < length c.args.attributes.now = search rules in
    disagreeing_is_inconsistent c.args.attributes.now c.index-attributes-0.result c.check_each.result some c.index-attributes-0.is c.if-id_offsets_agree.ensures c.check_each.ensures
