use Rattle.code_cfi.proofs.ErrorLemmas.{on_any_error}
use Rattle.code_dwarf.proofs.NumberLemmas.{no_offset}
use Rattle.code_dwarf.proofs.UnitLemmas.{no_old_size}
use Rattle.code_dwarf.proofs.units.read_old_fields.Goals as goal

pub returns-in_err-abbreviations-clause-none : goal.returns-in_err-abbreviations-clause-none
returns-in_err-abbreviations-clause-none c =
    on_any_error c.from_residual.result _ (λ f rest at. no_offset c.args.endian c.args.is_64_bit c.args.bytes.now f.abbreviations at.mid c.in_err-abbreviations.ensures.none at.abbreviations_at)

pub returns-in_err-address_size-clause-none : goal.returns-in_err-address_size-clause-none
returns-in_err-address_size-clause-none c =
    on_any_error c.from_residual-in_err-address_size.result _
    (no_old_size c.args.endian c.args.is_64_bit c.args.bytes.now c.in_ok-abbreviations.abbreviations c.in_ok-abbreviations.after.now c.in_ok-abbreviations.ensures.found c.in_err-address_size.ensures.none)
