use Rattle.std.proofs.Common.{◌+◌, ◌-◌, ◌%◌, ◌^◌, ◌<◌, ℕ, length, ap, subst, refl, inl, inr, arith}
use Rattle.std.proofs.lemmas.Result.{err_from_is_err_and}
use Rattle.code_unwind.specs.Expressions.{Context}
use Rattle.code_unwind.specs.steps.Expressions.{moment_at}
use Rattle.code_unwind.specs.Operations.{NoOperation}
use Rattle.code_unwind.specs.ExpressionStack.{effect}
use Rattle.code_unwind.specs.steps.ExpressionStack.{stack_of}
use Rattle.code_unwind.proofs.ExpressionLemmas.{bytes_from, next_at, leaves_ok, leaves_err}
use Rattle.code_unwind.proofs.expression.Evaluator.step.Goals as goal

pub returns-in_err-operation-clause-stops : goal.returns-in_err-operation-clause-stops
returns-in_err-operation-clause-stops c =
    let p = err_from_is_err_and c.from_residual.result c.from_residual.ensures.1 in
    rw (p.1, p.2) (inr (inl (c.requires, subst NoOperation (bytes_from c.args.bytes.now c.args.position) c.in_err-operation.ensures.none.1, c.in_err-operation.ensures.none.0)))

pub returns-in_err-carry_out-clause-stops : goal.returns-in_err-carry_out-clause-stops
returns-in_err-carry_out-clause-stops c =
    let p = err_from_is_err_and c.from_residual-in_err-carry_out.result c.from_residual-in_err-carry_out.ensures.1 in
    let x : Context = record { bytes = c.args.bytes.now; registers = c.args.registers.now; copy = c.args.copy.now } in
    let m = moment_at c.args.self.now c.args.position in
    let op = c.in_ok-operation.operation in
    let after = length c.args.bytes.now - length c.in_ok-operation.rest.now in
    let next = next_at x m op c.in_ok-operation.rest.now c.requires (omega (arith, c.if-self-eq0.false)) c.in_ok-operation.ensures.found c.in_ok-operation.ensures.shorter in
    rw (p.1, p.2) (inr (inr (inl (op, after, next, leaves_err (effect x.registers x.copy op m.stack) (stack_of c.carry_out.new.self) _ c.in_err-carry_out.ensures))))

pub returns-then-next-bytes-clause-stops : goal.returns-then-next-bytes-clause-stops
returns-then-next-bytes-clause-stops c =
    let x : Context = record { bytes = c.args.bytes.now; registers = c.args.registers.now; copy = c.args.copy.now } in
    let m = moment_at c.args.self.now c.args.position in
    let op = c.in_ok-operation.operation in
    let after = length c.args.bytes.now - length c.in_ok-operation.rest.now in
    let next = next_at x m op c.in_ok-operation.rest.now c.requires (omega (arith, c.if-self-eq0.false)) c.in_ok-operation.ensures.found c.in_ok-operation.ensures.shorter in
    let Outside : ℕ → Type 0 = λ d. length c.args.bytes.now < (after + d) % 2 ^ 64 in
    inr (inr (inr (op, after, next, subst Outside c.distance-distance.ensures c.if-next-bytes.true, refl)))

pub returns-clause-steps : goal.returns-clause-steps
returns-clause-steps c =
    let x : Context = record { bytes = c.args.bytes.now; registers = c.args.registers.now; copy = c.args.copy.now } in
    let m = moment_at c.args.self.now c.args.position in
    let op = c.in_ok-operation.operation in
    let after = length c.args.bytes.now - length c.in_ok-operation.rest.now in
    let next = next_at x m op c.in_ok-operation.rest.now c.requires (omega (arith, c.if-self-eq0.false)) c.in_ok-operation.ensures.found c.in_ok-operation.ensures.shorter in (
      op,
      record {
        after = after;
        next = next;
        stack_is = leaves_ok (effect x.registers x.copy op m.stack) (stack_of c.carry_out.new.self) _ c.in_ok-carry_out.ensures;
        position_is = ap (λ d. (after + d) % 2 ^ 64) c.distance-distance.ensures;
        within = c.if-next-bytes.false;
        remaining_is = omega (arith, c.if-self-eq0.false);
      },
    )
