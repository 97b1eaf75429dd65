use Rattle.std.proofs.Common.{◌≡◌, ◌∷◌, [], ◌++◌, length, refl, sym, ap, ◌∙◌, subst, arith}
use Rattle.std.proofs.lemmas.List.{length_push}
use Rattle.perfdata_order.specs.declared.bodies.Block.{Block}
use Rattle.perfdata_order.specs.Blocks.{AreSpare}
use Rattle.perfdata_order.proofs.Blocks.{still_spare}
use Rattle.perfdata_order.proofs.bodies.Bodies.add_block.Goals as goal

pub invariant_of-self-2 : goal.invariant_of-self-2
invariant_of-self-2 c =
    let old = c.args.self.now in
    let b : Block = record { bytes = c.in_ok-bytes.bytes; held = 0 } in
    let items : c.push_reserved.new.self.items ≡ old.blocks.items ++ b ∷ [] = c.push_reserved.ensures.items ∙ ap (λ xs. xs ++ b ∷ []) c.reserve-2.ensures.items in
    let count = c.len-count.ensures in
    let all = old.blocks.ok.0 in
    let n : length old.blocks.items ≡ c.len-count.result = omega (arith, count, all) in
    let spare = still_spare old.blocks.items b refl old.current old.spare.items old.spare_blocks c.requires in
    let more = ap length items ∙ length_push old.blocks.items b in
    let room = c.in_ok-reserve.ensures.ok in
    record {
      spare_blocks =
          subst (λ xs. AreSpare c.push_reserved.new.self.items c.len-count.result xs) (sym c.reserve.ensures.items)
          (subst (λ bs. AreSpare bs c.len-count.result old.spare.items) (sym items)
          (subst (λ k. AreSpare (old.blocks.items ++ b ∷ []) k old.spare.items) n spare));
      reserved = omega (arith, n, more, room);
    }
