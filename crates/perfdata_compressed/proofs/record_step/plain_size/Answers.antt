use Rattle.std.proofs.Common.{◌≡◌, ◌+◌, ◌<◌, ◌∙◌, arith, subst, sym, ap}
use Rattle.std.specs.Prelude.{drop, suc}
use Rattle.std.proofs.lemmas.List.{drop-drop}
use Rattle.perfdata_compressed.specs.declared.record_step.RecordStep.TheVariants.{Plain}
use Rattle.perfdata_compressed.specs.RecordSteps.{StepMatches, PlainRecords}
use Rattle.perfdata_compressed.proofs.PlainRecordLemmas.{one_more}
use Rattle.perfdata_compressed.proofs.record_step.plain_size.Goals as goal

pub loop-preserved : goal.loop-preserved
loop-preserved c = record {
  whole = λ small.
      let sum : c.saturating_add-size.result ≡ c.loop.size + c.in-Plain.record = omega (arith, c.saturating_add-size.ensures, small) in
      let before : c.loop.size < 18446744073709551615 = omega (arith, sum, small) in
      let step = subst (λ s. StepMatches c.args.endian c.loop.rest.now s) c.in-Plain.is c.record_step.ensures in
      let here = subst (λ l. StepMatches c.args.endian l (Plain c.in-Plain.record)) (c.loop.invariant.rest before) step in
      let (count, plain) = c.loop.invariant.whole before in
      (suc count, subst (λ n. PlainRecords c.args.endian (suc count) c.args.bytes.now n) (sym sum) (one_more c.args.endian count c.args.bytes.now c.loop.size c.in-Plain.record plain here));
  rest = λ small.
      let sum : c.saturating_add-size.result ≡ c.loop.size + c.in-Plain.record = omega (arith, c.saturating_add-size.ensures, small) in
      let before : c.loop.size < 18446744073709551615 = omega (arith, sum, small) in
      c.bytes_after-rest.ensures ∙ ap (drop c.in-Plain.record) (c.loop.invariant.rest before)
      ∙ drop-drop c.in-Plain.record c.loop.size c.args.bytes.now ∙ ap (λ n. drop n c.args.bytes.now) (sym sum);
}
