use Rattle.std.proofs.Common.{refl, arith}
use Rattle.perfdata_order.proofs.Blocks.{spare_reused, rest_spare, popped_below, vacancy_other, no_items, each_held, same_count}
use Rattle.perfdata_order.proofs.bodies.Bodies.reuse_spare.Goals as goal

pub invariant_of-self : goal.invariant_of-self
invariant_of-self c =
    let old = c.args.self.now in
    let i = c.in-Some.index in
    let rest = c.pop.new.self.items in
    let popped = c.in-Some.ensures.items in
    let below = popped_below old.blocks.items old.current i old.spare.items rest old.spare_blocks popped in
    let count = same_count old.blocks.items _ i c.index_mut.result.now c.clear-cleared.new.self below c.index_mut.ensures.value refl in
    let reserved = old.reserved in
    let capacity = c.in-Some.ensures.capacity in
    record {
      spare_blocks = rest_spare old.blocks.items old.current i old.spare.items rest old.spare_blocks popped _
          (vacancy_other old.blocks.items _ i c.index_mut.result.now c.clear-cleared.new.self below c.index_mut.ensures.value refl) c.requires;
      reserved = omega (arith, count, reserved, capacity);
    }

pub returns-in-Some : goal.returns-in-Some
returns-in-Some c =
    let old = c.args.self.now in
    spare_reused old _ c.in-Some.index c.pop.new.self.items c.clear-cleared.result c.index_mut.result.now c.clear-cleared.new.self c.in-Some.ensures.items c.index_mut.ensures.value refl refl c.clear-cleared.ensures

pub returns-in-None : goal.returns-in-None
returns-in-None c =
    let old = c.args.self.now in
    let len = c.in-None.ensures.cases.0 in
    let all = old.spare.ok.0 in
    let none = no_items old.spare.items (omega (arith, len, all)) in (
      record { blocks = refl; current = refl },
      each_held old.blocks.items old.current old.spare.items old.spare_blocks none c.requires,
    )
