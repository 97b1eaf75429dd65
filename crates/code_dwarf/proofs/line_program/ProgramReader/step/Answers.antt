use Rattle.std.proofs.Common.{◌≡◌, ap, refl, sym, ◌∙◌, subst}
use Rattle.code_dwarf.specs.steps.LineMachine.{after, effect_of}
use Rattle.code_dwarf.specs.steps.LineRows.{stepped, program_bytes}
use Rattle.code_dwarf.specs.steps.LineReaders.{NotesRow}
use Rattle.code_dwarf.specs.declared.line_instruction.Registers.{Registers}
use Rattle.code_dwarf.specs.declared.line_instruction.RowEffect.TheVariants as effects
use Rattle.code_dwarf.specs.declared.line_program.ProgramReader.{ProgramReader}
use Rattle.code_dwarf.proofs.ErrorLemmas.{on_ok_map}
use Rattle.code_dwarf.proofs.LineRowLemmas.{suffix_next}
use Rattle.code_dwarf.proofs.LineReaderLemmas.{Ready, moves_of, follows_ready, ready_none, ready_row, follows_end}
use Rattle.code_dwarf.proofs.line_program.ProgramReader.step.Goals as goal
use Rattle.code_dwarf.proofs.line_program.ProgramReader.step.Goals.{in-None, in-Row}

pub returns : goal.returns
returns c section bytes rest p at whole left follows =
    let h = c.args.header.now in
    let code = c.args.code.now in
    let i = c.args.instruction.now in
    let old = c.args.self.now in
    let new = c.match-step.self in
    let registers : c.step.new.self ≡ after h i p.registers = c.step.ensures.registers ∙ ap (λ (r : Registers). after h i r) follows.registers_are in
    let mid : ProgramReader = record old { registers = c.step.new.self } in
    let ready : Ready section h code new (stepped h i p) rest =
    elim c.match-step.branch [
      | in-None w ↦ ready_none section h code old new p bytes rest i at follows (moves_of old new c.step.new.self (after h i p.registers) w.self-is registers) (sym c.step.ensures.effect ∙ w.in-None.is)
      | in-Row w ↦
          let noted : NotesRow mid new = subst (λ (m : ProgramReader). NotesRow mid m) (sym w.self-is) w.add_row.ensures in
          ready_row section h code old mid p bytes rest i at follows (moves_of old mid c.step.new.self (after h i p.registers) refl registers) new noted (sym c.step.ensures.effect ∙ w.in-Row.is)
    ] in
    on_ok_map c.add_checkpoint.result _ _
    (λ noted. follows_ready section h code new c.add_checkpoint.new.self (stepped h i p) rest c.args.left ready noted left (suffix_next section h (program_bytes section h) bytes i rest at whole)) c.add_checkpoint.ensures

pub returns-in-End : goal.returns-in-End
returns-in-End c section bytes rest p at whole left follows =
    let h = c.args.header.now in
    let i = c.args.instruction.now in
    let old = c.args.self.now in
    let registers : c.step.new.self ≡ after h i p.registers = c.step.ensures.registers ∙ ap (λ (r : Registers). after h i r) follows.registers_are in
    let mid : ProgramReader = record old { registers = c.step.new.self } in
    on_ok_map c.end_sequence.result _ _
    (λ ends. follows_end section h c.args.code.now old mid p bytes rest i at follows (moves_of old mid c.step.new.self (after h i p.registers) refl registers) c.end_sequence.new.self ends (sym c.step.ensures.effect ∙ c.in-End.is))
    c.end_sequence.ensures
