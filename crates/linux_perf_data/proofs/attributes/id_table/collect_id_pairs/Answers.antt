use Rattle.std.proofs.Common.{◌≡◌, ◌++◌, ◌∙◌, get_or, map, arith, ap, sym}
use Rattle.linux_perf_data.proofs.IdPairLemmas.{pairs_more}
use Rattle.linux_perf_data.proofs.attributes.id_table.collect_id_pairs.Goals as goal

pub attributes-preserved : goal.attributes-preserved
attributes-preserved c =
    let i = c.attributes.invariant in
    let ds = c.args.attributes.now in
    let d = c.attribute-item.result in
    let here : d ≡ get_or ds c.attributes.index d = c.attribute-item.is ∙ ap (λ n. get_or ds n d) (sym i.at) in
    let pushed = c.in_ok-push_ids.ensures ∙ ap (λ l. c.attributes.pairs.items ++ map (λ id. (id, c.attributes.index)) l) c.ids.ensures in
    record { at = omega arith; are = pairs_more ds c.attributes.index d c.attributes.pairs.items c.push_ids.new.pairs.items (omega arith) here pushed i.are }
