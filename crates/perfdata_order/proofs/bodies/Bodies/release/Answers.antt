use Rattle.std.proofs.Common.{◌<◌, ◌∷◌, [], ◌++◌, length, set, refl, sym, subst, inl, inr, arith}
use Rattle.std.proofs.lemmas.List.{length_push}
use Rattle.perfdata_order.specs.Blocks.{AreSpare}
use Rattle.perfdata_order.specs.steps.Blocks.{WasLast}
use Rattle.perfdata_order.specs.steps.Bodies.{ReleasesBody}
use Rattle.perfdata_order.proofs.Blocks.{body_released, spare_kept, spare_more, spare_few, same_count, not_last}
use Rattle.perfdata_order.proofs.bodies.Bodies.release.Goals as goal
use Rattle.perfdata_order.proofs.bodies.Bodies.release.Goals.{else-is_last-via-then-is_last+else-block-self, else-is_last-via-else-is_last}

pub push_reserved-requires : goal.push_reserved-requires
push_reserved-requires c =
    let old = c.args.self.now in
    let b = c.index_mut.result.now in
    let b' = c.release-is_last.new.self in
    let len = c.len.ensures in
    let all = old.blocks.ok.0 in
    let below : c.args.block < length old.blocks.items = omega (arith, len, all) in
    let one = subst (λ r. WasLast b r) c.if-is_last.true c.release-is_last.ensures.was_last in
    let less = c.release-is_last.ensures.held in
    let bs' = set old.blocks.items c.args.block b' in
    let more = spare_more old.blocks.items bs' c.args.block b b' below c.index_mut.ensures.value refl old.current old.spare.items c.if-block-self.true one (omega (arith, one, less)) old.spare_blocks in
    let few = spare_few bs' old.current (old.spare.items ++ c.args.block ∷ []) more in
    let count = same_count old.blocks.items bs' c.args.block b b' below c.index_mut.ensures.value refl in
    let push = length_push old.spare.items c.args.block in
    let reserved = old.reserved in
    let listed = old.spare.ok.0 in
    omega (arith, few, count, push, reserved, listed)

pub invariant_of-self : goal.invariant_of-self
invariant_of-self c =
    let old = c.args.self.now in
    let b = c.index_mut.result.now in
    let b' = c.release-is_last.new.self in
    let len = c.len.ensures in
    let all = old.blocks.ok.0 in
    let below : c.args.block < length old.blocks.items = omega (arith, len, all) in
    let one = subst (λ r. WasLast b r) c.if-is_last.true c.release-is_last.ensures.was_last in
    let less = c.release-is_last.ensures.held in
    let bs' = set old.blocks.items c.args.block b' in
    let more = spare_more old.blocks.items bs' c.args.block b b' below c.index_mut.ensures.value refl old.current old.spare.items c.if-block-self.true one (omega (arith, one, less)) old.spare_blocks in
    let count = same_count old.blocks.items _ c.args.block b b' below c.index_mut.ensures.value refl in
    let reserved = old.reserved in
    let capacity = c.push_reserved.ensures.capacity in
    record {
      spare_blocks = subst (λ xs. AreSpare bs' old.current xs) (sym c.push_reserved.ensures.items) more;
      reserved = omega (arith, count, reserved, capacity);
    }

pub invariant_of-self-else-block-self : goal.invariant_of-self-else-block-self
invariant_of-self-else-block-self c =
    let old = c.args.self.now in
    let b = c.index_mut.result.now in
    let b' = c.release-is_last.new.self in
    let len = c.len.ensures in
    let all = old.blocks.ok.0 in
    let below : c.args.block < length old.blocks.items = omega (arith, len, all) in
    let count = same_count old.blocks.items _ c.args.block b b' below c.index_mut.ensures.value refl in
    let reserved = old.reserved in
    record {
      spare_blocks = spare_kept old.blocks.items _ c.args.block b b' below c.index_mut.ensures.value refl old.current old.spare.items (inl c.if-block-self.false) old.spare_blocks;
      reserved = omega (arith, count, reserved);
    }

pub invariant_of-self-else-is_last : goal.invariant_of-self-else-is_last
invariant_of-self-else-is_last c =
    let old = c.args.self.now in
    let b = c.index_mut.result.now in
    let b' = c.release-is_last.new.self in
    let len = c.len.ensures in
    let all = old.blocks.ok.0 in
    let below : c.args.block < length old.blocks.items = omega (arith, len, all) in
    let count = same_count old.blocks.items _ c.args.block b b' below c.index_mut.ensures.value refl in
    let reserved = old.reserved in
    let more = subst (λ r. WasLast b r) c.if-is_last.false c.release-is_last.ensures.was_last in
    record {
      spare_blocks = spare_kept old.blocks.items _ c.args.block b b' below c.index_mut.ensures.value refl old.current old.spare.items (inr (not_last b b' more c.release-is_last.ensures.held)) old.spare_blocks;
      reserved = omega (arith, count, reserved);
    }

pub returns-then-block-self-clause-releases : goal.returns-then-block-self-clause-releases
returns-then-block-self-clause-releases c =
    let old = c.args.self.now in
    let len = c.len.ensures in
    let all = old.blocks.ok.0 in
    let below : c.args.block < length old.blocks.items = omega (arith, len, all) in
    body_released old.blocks.items _ c.args.block c.index_mut.result.now c.release-is_last.new.self below c.index_mut.ensures.value refl c.release-is_last.result c.release-is_last.ensures

pub returns-else-is_last-clause-releases : goal.returns-else-is_last-clause-releases
returns-else-is_last-clause-releases c =
    let old = c.args.self.now in
    let len = c.len.ensures in
    let all = old.blocks.ok.0 in
    let below : c.args.block < length old.blocks.items = omega (arith, len, all) in
    let bs' = set old.blocks.items c.args.block c.release-is_last.new.self in
    let done = body_released old.blocks.items bs' c.args.block c.index_mut.result.now c.release-is_last.new.self below c.index_mut.ensures.value refl c.release-is_last.result c.release-is_last.ensures in
    elim c.else-is_last.branch [
      | else-is_last-via-then-is_last+else-block-self w ↦ subst (λ s. ReleasesBody old c.args.block s) (sym w.self-is) done
      | else-is_last-via-else-is_last w ↦ subst (λ s. ReleasesBody old c.args.block s) (sym w.self-is) done
    ]
