-- Records that aren't compressed.
use Rattle.std.proofs.Common.{ℕ, ◌+◌, ◌∙◌, List, arith, refl, sym, subst, ap}
use Rattle.std.specs.Prelude.{zero, suc, drop}
use Rattle.std.proofs.lemmas.List.{drop-drop}
use Rattle.perfdata_sources.specs.declared.endian.Endianness.{Endianness}
use Rattle.perfdata_compressed.specs.declared.record_step.RecordStep.TheVariants.{Plain}
use Rattle.perfdata_compressed.specs.RecordSteps.{StepMatches, PlainRecords}

module _ (order : Endianness) where
  -- After these records there is one more.
  pub one_more : (count : ℕ) (xs : List ℕ) (size more : ℕ) → PlainRecords order count xs size → StepMatches order (drop size xs) (Plain more) → PlainRecords order (suc count) xs (size + more)
  one_more zero xs size more e step = (more, (0, (subst (λ n. StepMatches order (drop n xs) (Plain more)) e step, (refl, omega (arith, e)))))
  one_more (suc count) xs size more (first, (rest, (start, (others, e)))) step =
      let after : StepMatches order (drop rest (drop first xs)) (Plain more) = subst (λ l. StepMatches order l (Plain more)) (ap (λ n. drop n xs) e ∙ sym (drop-drop rest first xs)) step in
      (first, (rest + more, (start, (one_more count (drop first xs) rest more others after, omega (arith, e)))))
