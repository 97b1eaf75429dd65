use Rattle.std.proofs.Common.{◌≡◌, ◌∙◌, ◌++◌, ◌∷◌, [], length, ap, refl, inr, rules}
use Rattle.std.proofs.lemmas.Result.{err_from_is_err_and}
use Rattle.perfdata_identifiers.specs.ParseInfo.{parse_info_of}
use Rattle.linux_perf_data.specs.Attribute.{Attribute}
use Rattle.linux_perf_data.proofs.LookupGrowth.{represents_more}
use Rattle.linux_perf_data.proofs.attributes.lookup.AttributeLookup.add.Goals as goal

pub returns-in_err-check_next : goal.returns-in_err-check_next
returns-in_err-check_next c =
    let p = err_from_is_err_and c.from_residual.result c.from_residual.ensures.1 in
    let broken = c.in_err-check_next.ensures in
    rw (p.1, p.2) (inr (broken.0, broken.1, λ attrs k. broken.2 c.args.endian c.args.ids.now attrs k))

pub returns : goal.returns
returns c = λ attrs k.
    let old = c.args.self.now in
    let a : Attribute = record { attr = c.args.attr.now; ids = c.args.ids.now } in
    let n = c.len-index.result in
    let count : n ≡ length old.parse_infos.items = search rules in
    let pushed : c.push.new.self.items ≡ old.parse_infos.items ++ c.new.result ∷ [] = c.in_ok-push.ensures.items in
    let places : c.push.new.self.items ≡ old.parse_infos.items ++ parse_info_of c.args.attr.now c.args.endian ∷ [] = pushed ∙ ap (λ p. old.parse_infos.items ++ p ∷ []) c.new.ensures in
    represents_more c.args.endian old _ attrs a n k (c.in_ok-check_next.ensures c.args.endian c.args.ids.now attrs k) count refl places c.next_without_identifier-self.ensures c.in_ok-insert_all.ensures c.clear.ensures
