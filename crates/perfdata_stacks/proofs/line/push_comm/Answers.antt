use Rattle.std.proofs.Common.{◌∙◌, ◌++◌, ap, sym, arith}
use Rattle.std.proofs.lemmas.List.{length-map, take-map}
use Rattle.std.proofs.lemmas.Result.{err_from_is_err_and}
use Rattle.perfdata_stacks.specs.Line.{comm_byte}
use Rattle.perfdata_stacks.proofs.line.push_comm.Goals as goal

pub returns-in_err-push-clause-err : goal.returns-in_err-push-clause-err
returns-in_err-push-clause-err c =
    let p = err_from_is_err_and c.from_residual.result c.from_residual.ensures.1 in
    let bytes = c.args.comm.now in
    rw p.1 (record {
      count = c.bytes.byte-index;
      not_all = omega (arith, length-map bytes comm_byte, c.bytes-test.true);
      is = c.in_err-push.ensures.items ∙ c.bytes.invariant.items ∙ ap (λ more. c.args.line.now.items ++ more) (sym (take-map comm_byte c.bytes.byte-index bytes));
    })

pub returns-in_err-push-clause-full : goal.returns-in_err-push-clause-full
returns-in_err-push-clause-full c =
    let p = err_from_is_err_and c.from_residual.result c.from_residual.ensures.1 in
    rw p.1 (omega (arith, c.bytes-test.true, c.bytes.invariant.len, c.bytes.invariant.capacity, c.in_err-push.ensures.full))
