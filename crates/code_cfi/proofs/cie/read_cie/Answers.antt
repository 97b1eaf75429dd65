use Rattle.std.proofs.Common.{◌≡◌, ℤ, arith, rules, subst, sym, w64}
use Rattle.std.proofs.lemmas.Int.{to_z-of_z}
use Rattle.code_cfi.specs.Numbers.{Sleb128At}
use mir.Val.{SFits, to_z, of_z}
use Rattle.code_cfi.proofs.ErrorLemmas.{on_any_error}
use Rattle.code_cfi.proofs.UniqueCies.{no_cie_code, no_cie_data, no_cie_register, no_cie_augmentation}
use Rattle.code_cfi.proofs.cie.read_cie.Goals as goal

pub returns-clause-found : goal.returns-clause-found
returns-clause-found c =
    let z = c.in_ok-data_factor.data_factor in
    let fits : SFits w64 z = search rules in
    let same : to_z w64 (of_z w64 z) ≡ z = to_z-of_z w64 z fits in
    let one = c.in_ok-version.ensures.shorter in
    let two = c.in_ok-code_factor.ensures.shorter in
    let three = c.in_ok-data_factor.ensures.shorter in
    let four = c.in_ok-return_address.ensures.shorter in
    let five = c.in_ok-augmentation.ensures.shorter in
    record {
      version = c.in_ok-version.version;
      string = c.in_ok-version.string.now;
      after_sizes = c.in_ok-version.after_sizes.now;
      after_code = c.in_ok-code_factor.after_code.now;
      after_data = c.in_ok-data_factor.after_data.now;
      after_register = c.in_ok-return_address.after_register.now;
      rest = c.in_ok-augmentation.rest.now;
      version_at = c.in_ok-version.ensures.found;
      code_at = c.in_ok-code_factor.ensures.found;
      data_at = subst (λ (n : ℤ). Sleb128At c.in_ok-code_factor.after_code.now n c.in_ok-data_factor.after_data.now) (sym same) c.in_ok-data_factor.ensures.found;
      register_at = c.in_ok-return_address.ensures.found;
      augmentation_at = c.in_ok-augmentation.ensures.found;
      offset_is = search rules;
      starts = omega (arith, one, two, three, four, five, c.requires);
      ends = search rules;
    }

pub returns-in_err-version-clause-none : goal.returns-in_err-version-clause-none
returns-in_err-version-clause-none c = on_any_error c.from_residual.result _ (λ d at. c.in_err-version.ensures.none at.version at.string at.after_sizes at.version_at)

pub returns-in_err-code_factor-clause-none : goal.returns-in_err-code_factor-clause-none
returns-in_err-code_factor-clause-none c =
    on_any_error c.from_residual-in_err-code_factor.result _
    (no_cie_code c.args.entry.now c.in_ok-version.version c.in_ok-version.string.now c.in_ok-version.after_sizes.now c.in_ok-version.ensures.found c.in_err-code_factor.ensures.none)

pub returns-in_err-data_factor-clause-none : goal.returns-in_err-data_factor-clause-none
returns-in_err-data_factor-clause-none c =
    on_any_error c.from_residual-in_err-data_factor.result _
    (no_cie_data c.args.entry.now c.in_ok-version.version c.in_ok-version.string.now c.in_ok-version.after_sizes.now c.in_ok-version.ensures.found c.in_ok-code_factor.code_factor c.in_ok-code_factor.after_code.now
    c.in_ok-code_factor.ensures.found c.in_err-data_factor.ensures.none)

pub returns-in_err-return_address-clause-none : goal.returns-in_err-return_address-clause-none
returns-in_err-return_address-clause-none c =
    on_any_error c.from_residual-in_err-return_address.result _
    (no_cie_register c.args.entry.now c.in_ok-version.version c.in_ok-version.string.now c.in_ok-version.after_sizes.now c.in_ok-version.ensures.found c.in_ok-code_factor.code_factor c.in_ok-code_factor.after_code.now
    c.in_ok-code_factor.ensures.found _ c.in_ok-data_factor.after_data.now c.in_ok-data_factor.ensures.found c.in_err-return_address.ensures.none)

pub returns-in_err-augmentation-clause-none : goal.returns-in_err-augmentation-clause-none
returns-in_err-augmentation-clause-none c =
    on_any_error c.from_residual-in_err-augmentation.result _
    (no_cie_augmentation c.args.entry.now c.in_ok-version.version c.in_ok-version.string.now c.in_ok-version.after_sizes.now c.in_ok-version.ensures.found c.in_ok-code_factor.code_factor c.in_ok-code_factor.after_code.now
    c.in_ok-code_factor.ensures.found _ c.in_ok-data_factor.after_data.now c.in_ok-data_factor.ensures.found c.in_ok-return_address.return_address c.in_ok-return_address.after_register.now c.in_ok-return_address.ensures.found
    c.in_err-augmentation.ensures.none)
