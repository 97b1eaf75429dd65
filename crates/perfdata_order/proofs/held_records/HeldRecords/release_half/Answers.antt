use Rattle.std.proofs.Common.{arith}
use Rattle.perfdata_order.specs.Sorter.{held_of}
use Rattle.perfdata_order.proofs.HeldLemmas.{half_permutes, half_slots, stored_permuted, counted_permuted}
use Rattle.perfdata_order.proofs.held_records.HeldRecords.release_half.Goals as goal

pub invariant_of-self : goal.invariant_of-self
invariant_of-self c =
    let old = c.args.self.now in
    let sorter = c.release_half.new.self in
    let same = half_permutes old.sorter sorter c.release_half.result c.release_half.ensures in
    let few = old.few_blocks in
    let slots = half_slots old.sorter sorter c.release_half.result c.release_half.ensures in
    record {
      stored = stored_permuted old.bodies old.parse_infos (held_of old.sorter) (held_of sorter) same old.stored;
      counted = counted_permuted old.bodies (held_of old.sorter) (held_of sorter) same old.counted;
      few_blocks = omega (arith, few, slots);
    }
