use Rattle.std.proofs.Common.{drop, inl, inr, refl, subst}
use Rattle.std.proofs.lemmas.List.{drop-drop}
use Rattle.linux_perf_data.specs.Values.{BeginsWithString}
use Rattle.perfdata_chunks.proofs.numbers.read_pmu.Goals as goal

pub returns-in_default : goal.returns-in_default
returns-in_default c =
    let at = c.args.offset in
    let section = c.args.section.now in
    elim c.find_string.ensures [
      | inl found ↦ absurd (c.in_default.not-Success found.0)
      | inr none ↦ inr (refl, (λ begins. none.1 (subst (BeginsWithString c.args.endian) (drop-drop 4 at section) begins.1)), refl)
    ]
