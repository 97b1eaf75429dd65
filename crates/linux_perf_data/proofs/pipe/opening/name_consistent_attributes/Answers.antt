use Rattle.std.proofs.Common.{◌∙◌, length, sym, subst, arith, inl, inr}
use Rattle.std.proofs.lemmas.Result.{err_from_is_err_and}
use Rattle.linux_perf_data.specs.Attribute.{AreInconsistent}
use Rattle.linux_perf_data.proofs.NameTables.{named_can}
use Rattle.linux_perf_data.proofs.PipeFinish.{not_none, some_attributes}
use Rattle.linux_perf_data.proofs.pipe.opening.name_consistent_attributes.Goals as goal

pub returns-in_err-name_table : goal.returns-in_err-name_table
returns-in_err-name_table c =
    let p = err_from_is_err_and c.from_residual.result c.from_residual.ensures.1 in
    let old = c.args.attributes.now in
    rw (p.1, p.2) (inr (inl (some_attributes old (not_none (length old) (sym c.if-is_empty.false ∙ c.is_empty.ensures)), c.in_err-name_table.ensures.1)))

pub returns-in_err-check_consistency : goal.returns-in_err-check_consistency
returns-in_err-check_consistency c =
    let p = err_from_is_err_and c.from_residual-in_err-check_consistency.result c.from_residual-in_err-check_consistency.ensures.1 in
    let names = c.in_ok-name_table.ensures in
    let found = c.in_err-check_consistency.ensures in
    rw (p.1, p.2) (inr (inr (found.0, named_can c.args.endian _ _ names.0, subst (λ l. AreInconsistent l found.0) names.1 found.1, found.2)))

pub returns : goal.returns
returns c =
    let some = not_none (length c.args.attributes.now) (sym c.if-is_empty.false ∙ c.is_empty.ensures) in
    let long = c.name_attributes.auto.attributes in
    (omega (arith, some, long), c.in_ok-check_consistency.ensures, c.in_ok-name_table.ensures)
