use Rattle.std.proofs.Common.{rules, ◌≡◌, ◌∙◌, ◌<◌, ◌∷◌, [], ◌++◌, ap, get_or, length, refl, Some}
use Rattle.std.specs.Prelude.{cond}
use Rattle.std.specs.BTreeMap.{get, is_at}
use Rattle.std.specs.Ordering.{nat_cmp}
use Rattle.std.proofs.lemmas.List.{length_push}
use Rattle.linux_perf_data.specs.declared.attributes.first_id_index.FirstIdIndex.{FirstIdIndex}
use Rattle.linux_perf_data.proofs.FirstIdIndexes.{index_more_with}
use Rattle.linux_perf_data.proofs.attributes.first_id_index.FirstIdIndex.add.Goals as goal

pub returns : goal.returns
returns c =
    let old = c.args.self.now in
    let ids = c.args.ids.now in
    let first = get_or ids 0 0 in
    let p = c.last_index-previous.result in
    let new : FirstIdIndex = record { last = c.insert.new.self; previous = c.push-2.new.self } in
    let some : 0 < length ids = search rules in
    let count : c.len-index.result ≡ length old.previous.items = search rules in
    let items : new.previous.items ≡ old.previous.items ++ p ∷ [] = c.in_ok-push-2.ensures.items ∙ ap (λ l. l ++ p ∷ []) c.try_reserve.ensures.items in (
      ap length items ∙ length_push old.previous.items p,
      λ lists x there at. index_more_with old new lists ids first p some refl at there items c.last_index-previous.ensures
          (λ q. c.in_ok-insert.ensures.updates.0 q ∙ ap (λ n. cond (is_at (nat_cmp first) q) (Some n) (get nat_cmp old.last q)) count) x,
    )
