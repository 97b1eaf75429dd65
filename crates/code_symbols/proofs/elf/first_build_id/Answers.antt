use Rattle.std.proofs.Common.{List, ◌∙◌, arith}
use Rattle.code_symbols.specs.declared.elf.notes.NoteRange.{NoteRange}
use Rattle.code_symbols.proofs.BuildIdLemmas.{found_id, none_found, none_more}
use Rattle.code_symbols.proofs.elf.first_build_id.Goals as goal

pub returns-in-Some-clause-id : goal.returns-in-Some-clause-id
returns-in-Some-clause-id g c =
    let ranges : List NoteRange = c.args.notes.now in
    let found = rw c.in-Some.is at c.in_ok-id.ensures.id in
    found_id c.args.encoding ranges c.notes.range-index _ _ c.in-Some.id.items c.notes-test.true c.notes.invariant.bytes c.notes.invariant.none found

pub notes-preserved : goal.notes-preserved
notes-preserved g c =
    let ranges : List NoteRange = c.args.notes.now in
    let missing = rw c.in_default.is at c.in_ok-id.ensures.id in
    record {
      bytes = c.in_ok-id.ensures.all ∙ c.notes.invariant.bytes;
      none = none_more c.args.encoding ranges c.notes.range-index _ _ c.notes-test.true c.notes.invariant.bytes c.notes.invariant.none missing;
    }

pub returns-clause-id : goal.returns-clause-id
returns-clause-id g c =
    let ranges : List NoteRange = c.args.notes.now in
    none_found c.args.encoding ranges c.notes.range-index _ (omega (arith, c.notes-test.false)) c.notes.invariant.none
