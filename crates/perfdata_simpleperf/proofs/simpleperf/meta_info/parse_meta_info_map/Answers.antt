use Rattle.std.proofs.Common.{subst, sym}
use Rattle.std.proofs.lemmas.Result.{err_from_is_err_and}
use Rattle.perfdata_simpleperf.specs.MetaInfoPairs.{remaining_pairs}
use Rattle.perfdata_simpleperf.proofs.MetaPairs.{PairsSoFar, pairs_none, pairs_more, pairs_error, pairs_whole}
use Rattle.perfdata_simpleperf.proofs.simpleperf.meta_info.parse_meta_info_map.Goals as goal

pub pairs-init : goal.pairs-init
pairs-init c = subst (λ pairs. PairsSoFar c.args.bytes.now c.new-map.result (remaining_pairs pairs)) (sym c.into_iter-key-iterator.ensures.into_iter_gives) (pairs_none c.args.bytes.now c.new-map.result c.new-map.ensures.empty)

pub pairs-preserved : goal.pairs-preserved
pairs-preserved c = pairs_more c.args.bytes.now c.pairs.map c.insert_pair.new.map _ _ (c.in-Some.key.now, c.in-Some.value.now) c.pairs.invariant c.in-Some.ensures.steps c.in_ok-insert_pair.ensures

pub returns-in_err-insert_pair : goal.returns-in_err-insert_pair
returns-in_err-insert_pair c =
    let p = err_from_is_err_and c.from_residual.result c.from_residual.ensures.1 in
    rw (p.1, p.2) (pairs_error c.args.bytes.now c.pairs.map c.insert_pair.new.map _ _ (c.in-Some.key.now, c.in-Some.value.now) _ c.pairs.invariant c.in-Some.ensures.steps c.in_err-insert_pair.ensures)

pub returns : goal.returns
returns c = pairs_whole c.args.bytes.now c.pairs.map _ c.pairs.invariant c.in-None.ensures.steps.0
