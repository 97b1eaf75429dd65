use Rattle.std.proofs.Common.{◌<◌, length, refl, inl, arith}
use Rattle.perfdata_order.proofs.Blocks.{current_reused, spare_kept, same_count}
use Rattle.perfdata_order.proofs.bodies.Bodies.reuse_current.Goals as goal

pub invariant_of-self : goal.invariant_of-self
invariant_of-self c =
    let old = c.args.self.now in
    let len = c.len.ensures in
    let all = old.blocks.ok.0 in
    let below : old.current < length old.blocks.items = omega (arith, len, all) in
    let count = same_count old.blocks.items _ old.current c.index_mut.result.now c.clear.new.self below c.index_mut.ensures.value refl in
    let reserved = old.reserved in
    record {
      spare_blocks = spare_kept old.blocks.items _ old.current c.index_mut.result.now c.clear.new.self below c.index_mut.ensures.value refl old.current old.spare.items (inl refl) old.spare_blocks;
      reserved = omega (arith, count, reserved);
    }

pub returns-then-index-len : goal.returns-then-index-len
returns-then-index-len c =
    let old = c.args.self.now in
    let len = c.len.ensures in
    let all = old.blocks.ok.0 in
    let below : old.current < length old.blocks.items = omega (arith, len, all) in
    current_reused old _ c.clear.result c.index_mut.result.now c.clear.new.self below c.index_mut.ensures.value refl refl c.clear.ensures
