use Rattle.std.proofs.Common.{arith, rules}
use Rattle.std.specs.List.{Contains}
use Rattle.std.proofs.lemmas.Grind.{common_steps}
use Rattle.code_dwarf.proofs.LineReaderLemmas.{row_in}
use Rattle.code_dwarf.proofs.line_program.LineProgram.row.Goals as goal

pub returns : goal.returns
returns c code p is =
    let q = c.in_ok-sequence.sequence.now in
    let inside : Contains c.args.self.now.sequences.items q = first_of (search rules, grind (arith, common_steps)) in
    row_in c.args.section.now code c.args.self.now p q c.args.address c.in_ok-checkpoint.checkpoint c.last_row.result is inside c.if-address-sequence.false c.if-sequence-address.false c.in_ok-checkpoint.ensures.0
    c.in_ok-checkpoint.ensures.1 c.last_row.ensures
