use Rattle.std.proofs.Common.{◌≡◌, List, ℕ, [], ◌∷◌, length, Err, refl, inr, subst, arith}
use Rattle.std.proofs.lemmas.Result.{err_from_is_err_and}
use Rattle.code_unwind.specs.Expressions.{Context, RunsFrom}
use Rattle.code_unwind.specs.steps.Expressions.{moment_at}
use Rattle.code_unwind.proofs.ExpressionLemmas.{ends_with_top, spends_same}
use Rattle.code_unwind.proofs.expression.Evaluator.evaluate.Goals as goal

pub operations-init : goal.operations-init
operations-init c =
    let x : Context = record { bytes = c.args.bytes.now; registers = c.args.registers.now; copy = c.args.copy.now } in
    record {
      within = omega arith;
      leads = λ r left run.
          let From : List ℕ → Type 0 = λ s. RunsFrom x (record { position = 0; stack = s; remaining = c.args.self.now.remaining }) r left in
          subst From c.restart.ensures run;
    }

pub operations-preserved : goal.operations-preserved
operations-preserved c =
    let steps = c.in_ok-position.ensures.steps in
    record {
      within = steps.1.within;
      leads = λ r left run. c.operations.invariant.leads r left (
        steps.0 ∷ run.0,
        run.1,
        (moment_at c.step.new.self c.in_ok-position.position, steps.1, run.2),
        run.3,
        run.4,
      );
    }

pub operations-smaller : goal.operations-smaller
operations-smaller c = omega (arith, c.in_ok-position.ensures.steps.1.remaining_is)

pub returns-in_err-position : goal.returns-in_err-position
returns-in_err-position c =
    let p = err_from_is_err_and c.from_residual.result c.from_residual.ensures.1 in
    rw (p.1, p.2) (c.operations.invariant.leads (Err c.in_err-position.field-0.0) c.step.new.self.remaining (
      [],
      moment_at c.operations.self c.operations.position,
      refl,
      inr c.in_err-position.ensures.stops,
      c.step.ensures.fewer,
    ))

pub returns : goal.returns
returns c =
    let x : Context = record { bytes = c.args.bytes.now; registers = c.args.registers.now; copy = c.args.copy.now } in
    let m = moment_at c.operations.self c.operations.position in
    let end : c.operations.position ≡ length c.args.bytes.now = omega (arith, c.operations.invariant.within, c.operations-test.false) in
    c.operations.invariant.leads c.pop.result c.operations.self.remaining (
      [],
      m,
      refl,
      ends_with_top x m c.pop.result _ end c.pop.ensures.found c.pop.ensures.none,
      spends_same m c.pop.result,
    )
