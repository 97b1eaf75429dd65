use Rattle.std.proofs.Common.{List, sym, subst}
use Rattle.std.specs.List.{AllZip}
use Rattle.code_dwarf.specs.steps.LineRows.{counted, program_bytes}
use Rattle.code_dwarf.specs.steps.LineReaders.{IsKept}
use Rattle.code_dwarf.specs.declared.line_program.Checkpoint.{Checkpoint}
use Rattle.code_dwarf.proofs.LineHeaderLemmas.{program_at}
use Rattle.code_dwarf.proofs.line_program.LineProgram.read.Goals as goal

pub returns-clause-rows : goal.returns-clause-rows
returns-clause-rows c =
    let section = c.args.section.now in
    let h = c.in_ok-header.header in
    let code = c.args.code.now in
    let done = c.in_ok-is_whole.ensures (c.new-reader.ensures section (program_bytes section h) h code) in (
      done.0,
      record {
        runs = done.2;
        kept = subst (λ (l : List Checkpoint). AllZip (IsKept section h code l) c.run.new.self.sequences.items (counted code done.0.ended)) (sym c.truncate.ensures.items) done.3.kept;
      },
    )

pub returns-clause-header : goal.returns-clause-header
returns-clause-header c =
    (c.in_ok-header.ensures, program_at c.args.section.now c.args.offset c.args.endian c.args.has_64_bit_addresses c.in_ok-header.header c.in_ok-header.ensures)
