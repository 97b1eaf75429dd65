use Rattle.std.proofs.Common.{}
use Rattle.linux_perf_data.proofs.IdPairLemmas.{appended_more, appended_all}
use Rattle.linux_perf_data.proofs.attributes.id_table.push_ids.Goals as goal

pub ids-preserved : goal.ids-preserved
ids-preserved c = appended_more c.args.pairs.now.items _ _ c.args.ids.now c.ids.id-index c.args.index c.ids-test.true c.in_ok-push.ensures.items c.ids.invariant

pub returns : goal.returns
returns c = appended_all c.args.pairs.now.items _ c.args.ids.now c.ids.id-index c.args.index c.ids-test.false c.ids.invariant
