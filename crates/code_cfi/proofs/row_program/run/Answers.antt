use Rattle.std.proofs.Common.{◌∷◌, arith}
use Rattle.std.proofs.lemmas.Result.{err_from_is_err_and}
use Rattle.code_cfi.specs.steps.Rows.{moment_of}
use Rattle.code_cfi.proofs.ErrorLemmas.{if_any_error}
use Rattle.code_cfi.proofs.RememberLemmas.{remembers_more, run_remembers}
use Rattle.code_cfi.proofs.UniqueRuns.{run_first, no_run_read, no_run_step}
use Rattle.code_cfi.proofs.row_program.run.Goals as goal

pub instructions-preserved : goal.instructions-preserved
instructions-preserved c =
    let shorter = c.in_ok-instruction.ensures.shorter in
    let low = c.if-state-address.true in
    record {
      within = omega (arith, shorter, c.instructions.invariant.within);
      leads = λ n runs. c.instructions.invariant.leads n (
        c.in_ok-instruction.instruction ∷ runs.0,
        (omega (arith, low), (c.in_ok-instruction.after.now, moment_of c.step.new.state, c.in_ok-instruction.ensures.found, c.in_ok-step.ensures.done, runs.1)),
      );
      follows = λ n runs. run_first c.args.encoding.now c.args.cie.now c.args.initial.now c.args.address c.instructions.rest.now (moment_of c.instructions.state) n c.in_ok-instruction.instruction c.in_ok-instruction.after.now
          (moment_of c.step.new.state) (omega (arith, shorter)) (omega (arith, low)) c.in_ok-instruction.ensures.found c.in_ok-step.ensures.done (c.instructions.invariant.follows n runs);
      remembers = λ r. c.instructions.invariant.remembers (remembers_more c.args.encoding.now c.instructions.rest.now c.in_ok-instruction.instruction c.in_ok-instruction.after.now c.in_ok-instruction.ensures.found r);
    }

pub returns-in_err-instruction-clause-none : goal.returns-in_err-instruction-clause-none
returns-in_err-instruction-clause-none c =
    if_any_error c.from_residual.result _ (λ e other small n runs.
    no_run_read c.args.encoding.now c.args.cie.now c.args.initial.now c.args.address c.instructions.rest.now (moment_of c.instructions.state) (grind (arith, c.instructions-test.true, c.is_empty.ensures)) (omega (arith, c.if-state-address.true))
    c.in_err-instruction.ensures.none n (c.instructions.invariant.follows n runs))

pub returns-in_err-step-clause-none : goal.returns-in_err-step-clause-none
returns-in_err-step-clause-none c =
    let p = err_from_is_err_and c.from_residual-in_err-step.result c.from_residual-in_err-step.ensures.1 in
    let shorter = c.in_ok-instruction.ensures.shorter in
    rw (p.1, p.2) (λ other small n runs.
    no_run_step c.args.encoding.now c.args.cie.now c.args.initial.now c.args.address c.instructions.rest.now (moment_of c.instructions.state) c.in_ok-instruction.instruction c.in_ok-instruction.after.now (omega (arith, shorter))
    (omega (arith, c.if-state-address.true)) c.in_ok-instruction.ensures.found (c.in_err-step.ensures.none other) n (c.instructions.invariant.follows n runs))

pub returns-in_err-instruction-clause-memory : goal.returns-in_err-instruction-clause-memory
returns-in_err-instruction-clause-memory c =
    let p = err_from_is_err_and c.from_residual.result c.from_residual.ensures.1 in
    rw (p.1, p.2) (λ memory. absurd (c.in_err-instruction.ensures.never memory))

pub returns-in_err-step-clause-memory : goal.returns-in_err-step-clause-memory
returns-in_err-step-clause-memory c =
    let p = err_from_is_err_and c.from_residual-in_err-step.result c.from_residual-in_err-step.ensures.1 in
    rw (p.1, p.2) (λ memory. run_remembers c.args.initial.now c.args.encoding.now c.args.program.now c.instructions.rest.now c.in_ok-instruction.instruction c.in_ok-instruction.after.now
    c.in_ok-instruction.ensures.found c.instructions.invariant.remembers (c.in_err-step.ensures.memory memory))
