use Rattle.std.proofs.Common.{◌<◌, length, arith}
use Rattle.code_cfi.proofs.ErrorLemmas.{on_any_error}
use Rattle.code_cfi.proofs.UniqueCies.{no_augmentation_block, no_augmentation_letters}
use Rattle.code_cfi.proofs.cie.read_augmentation.Goals as goal

pub returns-in_err-data-in-122-clause-none : goal.returns-in_err-data-in-122-clause-none
returns-in_err-data-in-122-clause-none c =
    let some : 0 < length c.args.string.now = omega (arith, c.in-122.len_at_least) in
    on_any_error c.from_residual.result _ (no_augmentation_block c.args.string.now c.args.bytes.now some c.in_err-data-in-122.ensures.none)

pub returns-in_err-augmentation-in-122-clause-none : goal.returns-in_err-augmentation-in-122-clause-none
returns-in_err-augmentation-in-122-clause-none c =
    let some : 0 < length c.args.string.now = omega (arith, c.in-122.len_at_least) in
    on_any_error c.from_residual-in_err-augmentation-in-122.result _
    (no_augmentation_letters c.args.string.now c.args.bytes.now c.in_ok-data-in-122.data.now c.in_ok-data-in-122.rest.now some c.in_ok-data-in-122.ensures.found c.in_err-augmentation-in-122.ensures.none)
