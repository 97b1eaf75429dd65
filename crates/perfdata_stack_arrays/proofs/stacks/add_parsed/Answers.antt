use Rattle.std.proofs.Common.{refl, inl, inr}
use Rattle.std.proofs.lemmas.Result.{err_from_is_err_and}
use Rattle.perfdata_stack_arrays.proofs.Walks.{applied_other}
use Rattle.perfdata_stack_arrays.proofs.stacks.add_parsed.Goals as goal

pub returns-in-Sample : goal.returns-in-Sample
returns-in-Sample c = inl (record {
  sample = c.in-Sample.sample;
  is_sample = c.in-Sample.is;
  added = c.write_stack-added.result;
  writes = λ before follows. c.write_stack-added.ensures before follows.spaces follows.names;
  stacks_more = c.add_counts.ensures;
  frames_more = c.add_counts-in-Sample.ensures;
  same_state = refl;
  same_mappings = refl;
  same_text = refl;
})

pub returns-in_err-apply : goal.returns-in_err-apply
returns-in_err-apply c =
    let p = err_from_is_err_and c.from_residual.result c.from_residual.ensures.1 in
    rw p.1 (record {
      applied = record { misc = c.args.envelope.misc; event = c.args.parsed.now };
      applied_is = applied_other c.args.envelope.misc c.args.parsed.now c.in_default.not-Sample;
      keeps = record { totals = c.in_err-apply.ensures.err; same_stacks = refl; same_frames = refl };
    })

pub returns : goal.returns
returns c = inr (record {
  applied = record { misc = c.args.envelope.misc; event = c.args.parsed.now };
  applied_is = applied_other c.args.envelope.misc c.args.parsed.now c.in_default.not-Sample;
  applies = c.in_ok-apply.ensures.ok;
  same_counts = refl;
  same_stacks = refl;
  same_frames = refl;
})
