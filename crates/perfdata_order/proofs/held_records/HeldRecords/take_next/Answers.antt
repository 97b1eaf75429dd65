use Rattle.std.proofs.Common.{ap, ◌∙◌, arith}
use Rattle.perfdata_order.specs.HeldRecord.{view_with, envelope_of}
use Rattle.perfdata_order.specs.Bodies.{body_at}
use Rattle.perfdata_order.specs.Sorter.{held_of}
use Rattle.perfdata_order.proofs.SorterCalls.{held_before_return}
use Rattle.perfdata_order.proofs.HeldLemmas.{first_stored, stored_released, all_released, counted_taken}
use Rattle.perfdata_order.proofs.held_records.HeldRecords.take_next.Goals as goal

pub invariant_of-self : goal.invariant_of-self
invariant_of-self c =
    let old = c.args.self.now in
    let sorter = c.get_next.new.self in
    let held = c.in-Some.held in
    let key = c.in-Some.ensures.0 in
    let first = held_before_return old.sorter sorter key held c.in-Some.ensures.1 in
    let before = first_stored old.bodies old.parse_infos key held (held_of old.sorter) (held_of sorter) first old.stored in
    let few = old.few_blocks in
    let blocks = c.release.ensures.same_blocks in
    let slots = c.in-Some.ensures.1.slots in
    record {
      stored = all_released old.bodies c.release.new.self old.parse_infos held.body.range.block (held_of sorter) c.release.ensures.releases before.1;
      counted = counted_taken old.bodies c.release.new.self key held (held_of old.sorter) (held_of sorter) c.release.ensures.releases first old.counted;
      few_blocks = omega (arith, few, blocks, slots);
    }

pub envelope-requires : goal.envelope-requires
envelope-requires c =
    let old = c.args.self.now in
    let sorter = c.get_next.new.self in
    let held = c.in-Some.held in
    let key = c.in-Some.ensures.0 in
    let first = held_before_return old.sorter sorter key held c.in-Some.ensures.1 in
    (first_stored old.bodies old.parse_infos key held (held_of old.sorter) (held_of sorter) first old.stored).0.1.1

pub returns-in-Some : goal.returns-in-Some
returns-in-Some c =
    let old = c.args.self.now in
    let sorter = c.get_next.new.self in
    let bodies = c.release.new.self in
    let held = c.in-Some.held in
    let key = c.in-Some.ensures.0 in
    let first = held_before_return old.sorter sorter key held c.in-Some.ensures.1 in
    let is = (first_stored old.bodies old.parse_infos key held (held_of old.sorter) (held_of sorter) first old.stored).0 in
    let now = stored_released old.bodies bodies old.parse_infos held.body.range.block held c.release.ensures.releases is in
    (key, (held, (c.in-Some.ensures.1, ap (λ i. view_with i (body_at bodies held.body.range)) c.envelope.ensures ∙ ap (λ body. view_with (envelope_of held) body) now.0)))
