use Rattle.code_cfi.proofs.ErrorLemmas.{on_any_error}
use Rattle.code_cfi.proofs.UniqueFdes.{no_fde_size, no_fde_data}
use Rattle.code_cfi.proofs.fde.read_fde.Goals as goal

pub returns-in_err-start-clause-none : goal.returns-in_err-start-clause-none
returns-in_err-start-clause-none c = on_any_error c.from_residual.result _ (λ f at. c.in_err-start.ensures.none f.start at.after_start at.start_at)

pub returns-in_err-size-clause-none : goal.returns-in_err-size-clause-none
returns-in_err-size-clause-none c =
    on_any_error c.from_residual-in_err-size.result _
    (no_fde_size c.args.address c.args.entry.now c.args.cie.now c.in_ok-start.start c.in_ok-start.after_start.now c.in_ok-start.ensures.found c.in_err-size.ensures.none)

pub returns-in_err-rest-clause-none : goal.returns-in_err-rest-clause-none
returns-in_err-rest-clause-none c =
    on_any_error c.from_residual-in_err-rest.result _
    (no_fde_data c.args.address c.args.entry.now c.args.cie.now c.in_ok-start.start c.in_ok-start.after_start.now c.in_ok-start.ensures.found c.in_ok-size.size c.in_ok-size.after_size.now c.in_ok-size.ensures.found c.in_err-rest.ensures.none)
