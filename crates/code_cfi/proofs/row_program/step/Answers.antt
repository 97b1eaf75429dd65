use Rattle.std.proofs.lemmas.Result.{IfErr-weaker}
use Rattle.code_cfi.specs.steps.Rows.{moment_of}
use Rattle.code_cfi.proofs.RememberLemmas.{remembers_after}
use Rattle.code_cfi.proofs.UniqueRuns.{no_step_in_fde, no_step_of_cfa}
use Rattle.code_cfi.proofs.row_program.step.Goals as goal

pub returns-in-Some-clause-none : goal.returns-in-Some-clause-none
returns-in-Some-clause-none c =
    IfErr-weaker c.step_in_fde.result _ _ (λ e none other. no_step_in_fde c.args.cie.now c.args.initial.now c.args.instruction.now (moment_of c.args.state.now) c.in-Some.row c.in-Some.is c.in-SetLocation.is (none other)) c.step_in_fde.ensures.none

pub returns-in-DefineCfa-clause-none : goal.returns-in-DefineCfa-clause-none
returns-in-DefineCfa-clause-none c =
    IfErr-weaker c.step_of_cfa.result _ _ (λ e none other. no_step_of_cfa c.args.cie.now c.args.initial.now c.args.instruction.now (moment_of c.args.state.now) c.in-DefineCfa.is none) c.step_of_cfa.ensures.none

pub returns-in-Some-clause-memory : goal.returns-in-Some-clause-memory
returns-in-Some-clause-memory c =
    IfErr-weaker c.step_in_fde.result _ _ (λ e memory is. remembers_after c.args.initial.now c.in-Some.row c.args.instruction.now c.in-Some.is (memory is)) c.step_in_fde.ensures.memory

pub returns-in-DefineCfa-clause-memory : goal.returns-in-DefineCfa-clause-memory
returns-in-DefineCfa-clause-memory c = IfErr-weaker c.step_of_cfa.result _ _ (λ e never is. absurd (never is)) c.step_of_cfa.ensures.never
