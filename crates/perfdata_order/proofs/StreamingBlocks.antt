-- The blocks for the bodies of a source's records.
use Rattle.std.proofs.Common.{arith}
use Rattle.std.specs.Ordering.{nat_cmp}
use Rattle.perfdata_sources.specs.Source.{State}
use Rattle.perfdata_order.specs.declared.held_record.HeldRecord.{HeldRecord}
use Rattle.perfdata_order.specs.StreamingLaws.{calls_in, HasFewBlocks}
use Rattle.perfdata_order.proofs.SorterSlots.{has_few_slots}
use Rattle.perfdata_order.proofs.StreamingSteps.{calls_sorter_in_turn}

pub has_few_blocks : {R : Type 0} (state : R → State) → HasFewBlocks state
has_few_blocks state records budget first last file file' steps new taken =
    let made = calls_sorter_in_turn state first last file file' steps taken in
    let slots = has_few_slots HeldRecord nat_cmp first.held.sorter last.held.sorter (calls_in steps) new.empty made in
    let few = last.held.few_blocks in
    omega (arith, slots, few)
