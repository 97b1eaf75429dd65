use Rattle.code_cfi.proofs.SectionLemmas.{are_few}
use Rattle.code_cfi.proofs.frame_table.FrameTable.new.Goals as goal

pub returns-clause-few : goal.returns-clause-few
returns-clause-few c = are_few c.args.section c.args.address c.args.bytes.items c.in_ok-table.table.cies.items c.in_ok-table.table.fdes.items c.in_ok-table.ensures.cies_in_order c.in_ok-table.ensures.in_order
