use Rattle.std.proofs.Common.{◌≡◌, ◌++◌, ◌∷◌, [], List, ℕ, sym, refl, subst}
use Rattle.code_dwarf.specs.steps.LineRows.{at_start, stepped, program_bytes}
use Rattle.code_dwarf.specs.steps.LineReaders.{Follows}
use Rattle.code_dwarf.proofs.LineRowLemmas.{reads_more, suffix_is, suffix_next}
use Rattle.code_dwarf.proofs.line_program.ProgramReader.run.Goals as goal

pub instructions-init : goal.instructions-init
instructions-init c =
    let section = c.args.section.now in
    let h = c.args.header.now in
    let rest = c.instruction_bytes-rest.result.now in
    let is : rest ≡ program_bytes section h = c.instruction_bytes-rest.ensures in
    record {
      whole = suffix_is rest (program_bytes section h) (0, is);
      run = λ start. (at_start, [], (is, refl), subst (λ (l : List ℕ). Follows section h c.args.code.now c.args.self.now at_start l) (sym is) start);
    }

pub instructions-preserved : goal.instructions-preserved
instructions-preserved c =
    let section = c.args.section.now in
    let h = c.args.header.now in
    let rest = c.instructions.rest.now in
    let i = c.in-Ok.instruction in
    let after = c.in-Ok.after.now in
    let at = c.in-Ok.ensures.found in
    let whole = c.instructions.invariant.whole in
    record {
      whole = suffix_next section h (program_bytes section h) rest i after at whole;
      run = λ start.
          let b = c.instructions.invariant.run start in
          (stepped h i b.0, b.1 ++ i ∷ [], reads_more section h (program_bytes section h) at_start b.1 rest b.0 i after b.2 at, c.in_ok-step.ensures section rest after b.0 at whole refl b.3);
    }

pub instructions-preserved-in_ok-push : goal.instructions-preserved-in_ok-push
instructions-preserved-in_ok-push c =
    let section = c.args.section.now in
    let h = c.args.header.now in
    let rest = c.instructions.rest.now in
    let i = c.in-Ok.instruction in
    let after = c.in-Ok.after.now in
    let at = c.in-Ok.ensures.found in
    let whole = c.instructions.invariant.whole in
    record {
      whole = suffix_next section h (program_bytes section h) rest i after at whole;
      run = λ start.
          let b = c.instructions.invariant.run start in
          (stepped h i b.0, b.1 ++ i ∷ [], reads_more section h (program_bytes section h) at_start b.1 rest b.0 i after b.2 at, c.in_ok-step.ensures section rest after b.0 at whole refl b.3);
    }
