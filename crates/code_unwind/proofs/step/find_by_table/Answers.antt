use Rattle.std.proofs.Common.{inl}
use Rattle.code_unwind.proofs.step.find_by_table.Goals as goal

pub returns-in-Some : goal.returns-in-Some
returns-in-Some c = inl (c.find_by_row.ensures c.args.fde.now.index c.args.fde.now.address c.in-Some.ensures)

pub returns-in-Ok : goal.returns-in-Ok
returns-in-Ok c = inl (c.find_by_row-in-Ok.ensures c.args.fde.now.index c.args.fde.now.address c.in-Ok.ensures.found)
