use Rattle.std.proofs.Common.{ap, ◌∙◌, inl, inr, length}
use Rattle.perfdata_jit.proofs.Contiguous.{prefix_alone, range_empty}
use Rattle.perfdata_jit.proofs.read_buffer.ReadBuffer.span_data.Goals as goal

pub returns-then-span-gt0-clause-single : goal.returns-then-span-gt0-clause-single
returns-then-span-gt0-clause-single c = λ one. c.join.ensures.single (inl (ap length c.range-main.ensures ∙ range_empty _ _ _ (prefix_alone c.args.span.now c.if-span-gt0.true one)))

pub returns-else-span-gt0-clause-single : goal.returns-else-span-gt0-clause-single
returns-else-span-gt0-clause-single c = λ one.
    c.join-else-span-gt0.ensures.single (elim one [
      | inl main ↦ inr (ap length c.range-main.ensures ∙ range_empty _ _ _ main.0)
      | inr over ↦ inl (range_empty _ _ _ over.0)
    ])
