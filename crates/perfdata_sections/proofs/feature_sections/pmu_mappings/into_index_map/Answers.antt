use Rattle.std.proofs.Common.{◌++◌, length, arith, sym, ap, ◌∙◌, length-append}
use Rattle.std.proofs.lemmas.List.{append-nil}
use Rattle.std.proofs.lemmas.Result.{err_from_is_err_and}
use Rattle.perfdata_sections.proofs.Pmus.{names_ordered, sorts_units}
use Rattle.perfdata_sections.proofs.feature_sections.pmu_mappings.into_index_map.Goals as goal

pub names-preserved-in_ok-insert : goal.names-preserved-in_ok-insert
names-preserved-in_ok-insert c = record {
  names = names_ordered c.args.names.entries c.next.new.self c.names.ordered c.insert.new.self c.in-Some.number c.in-Some.name c.names.invariant.up
      (ap (λ rest. c.names.ordered.entries ++ rest) (sym c.in-Some.ensures.steps) ∙ c.names.invariant.names) c.in_ok-insert.ensures.entries;
  up = c.names.invariant.up;
}

pub names-preserved : goal.names-preserved
names-preserved c = record {
  names = names_ordered c.args.names.entries c.next.new.self c.names.ordered c.insert.new.self c.in-Some.number c.in-Some.name c.names.invariant.up
      (ap (λ rest. c.names.ordered.entries ++ rest) (sym c.in-Some.ensures.steps) ∙ c.names.invariant.names) c.in_ok-insert.ensures.entries;
  up = c.names.invariant.up;
}

pub returns-clause-sorts : goal.returns-clause-sorts
returns-clause-sorts c = sorts_units c.args.names c.names.ordered c.names.invariant.up
    (sym (append-nil c.names.ordered.entries) ∙ ap (λ rest. c.names.ordered.entries ++ rest) (sym c.in-None.ensures.steps.0) ∙ c.names.invariant.names)

pub returns-in_err-insert-clause-nonempty : goal.returns-in_err-insert-clause-nonempty
returns-in_err-insert-clause-nonempty c =
    let p = err_from_is_err_and c.from_residual.result c.from_residual.ensures.1 in
    rw p.1 (omega (arith, ap length c.names.invariant.names, length-append c.names.ordered.entries c.names.number-iterator, ap length c.in-Some.ensures.steps))
