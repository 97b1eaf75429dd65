use Rattle.std.proofs.Common.{ℕ, List, sym, subst, arith, inr}
use Rattle.std.proofs.lemmas.Result.{err_from_is_err_and}
use Rattle.perfdata_simpleperf.specs.FileV1.{RepeatedAt, IntegerAt, IntegerError}
use Rattle.perfdata_simpleperf.proofs.V1Parts.{length_more, many_push, counted_stop}
use Rattle.perfdata_simpleperf.proofs.simpleperf.file_v1.split_offsets.Goals as goal

pub returns-in_err-offset-clause-on_error : goal.returns-in_err-offset-clause-on_error
returns-in_err-offset-clause-on_error g c =
    let r = c.from_residual-in_err-offset in
    let p = err_from_is_err_and r.result r.ensures.1 in
    let number = g.T.ByteOrder.number_of in
    rw (p.1, p.2) (counted_stop (IntegerAt number 8) number (IntegerError number 8) c.args.bytes.now c.in_ok-count.start.now c.offsets.rest.now c.in_ok-count.count c.offsets.offsets.items _
    c.in_ok-count.ensures.on_ok (omega (arith, c.offsets.invariant.long)) c.offsets.invariant.are (inr c.in_err-offset.ensures.on_error))

pub offsets-preserved : goal.offsets-preserved
offsets-preserved g c =
    let one = IntegerAt g.T.ByteOrder.number_of 8 in
    record {
      long = length_more c.offsets.offsets.items c.push.new.self.items c.in_ok-offset.offset c.offsets._index c.in_ok-push.ensures.items c.offsets.invariant.long;
      are = subst (λ (l : List ℕ). RepeatedAt one c.in_ok-count.start.now l c.in_ok-offset.after.now) (sym c.in_ok-push.ensures.items)
          (many_push one c.in_ok-count.start.now c.offsets.offsets.items c.offsets.rest.now c.in_ok-offset.offset c.in_ok-offset.after.now c.offsets.invariant.are c.in_ok-offset.ensures.on_ok);
    }
