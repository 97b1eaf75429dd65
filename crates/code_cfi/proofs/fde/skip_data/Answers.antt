use Rattle.std.proofs.Common.{◌≡◌, true, rules}
use Rattle.code_cfi.proofs.ErrorLemmas.{on_any_error}
use Rattle.code_cfi.proofs.UniqueFdes.{no_data}
use Rattle.code_cfi.proofs.fde.skip_data.Goals as goal

pub returns-in_err-rest-clause-none : goal.returns-in_err-rest-clause-none
returns-in_err-rest-clause-none c =
    let has : c.args.has_data ≡ true = search rules in
    on_any_error c.from_residual.result _ (no_data c.args.has_data c.args.bytes.now has c.in_err-rest.ensures.none)
