use Rattle.std.proofs.Common.{◌≡◌, ◌∷◌}
use Rattle.code_cfi.proofs.ErrorLemmas.{on_any_error}
use Rattle.code_dwarf.proofs.UnitLemmas.{no_new_offset, no_new_after}
use Rattle.code_dwarf.proofs.units.read_new_fields.Goals as goal

pub returns-in_err-kind-clause-none : goal.returns-in_err-kind-clause-none
returns-in_err-kind-clause-none c = on_any_error c.from_residual.result _ (λ f rest at. let is = at.bytes_at in cc (is, c.in_err-kind.ensures.none))

pub returns-in_err-address_size-clause-none : goal.returns-in_err-address_size-clause-none
returns-in_err-address_size-clause-none c =
    on_any_error c.from_residual-in_err-address_size.result _ (λ f rest at. let is = at.bytes_at in cc (is, c.in_ok-kind.ensures.found, c.in_err-address_size.ensures.none))

pub returns-in_err-abbreviations-clause-none : goal.returns-in_err-abbreviations-clause-none
returns-in_err-abbreviations-clause-none c =
    let is : c.args.bytes.now ≡ c.in_ok-kind.kind ∷ c.in_ok-address_size.address_size ∷ c.in_ok-address_size.after_size.now = cc (c.in_ok-kind.ensures.found, c.in_ok-address_size.ensures.found) in
    on_any_error c.from_residual-in_err-abbreviations.result _
    (no_new_offset c.args.endian c.args.is_64_bit c.args.bytes.now c.in_ok-kind.kind c.in_ok-address_size.address_size c.in_ok-address_size.after_size.now is c.in_err-abbreviations.ensures.none)

pub returns-in_err-entries-clause-none : goal.returns-in_err-entries-clause-none
returns-in_err-entries-clause-none c =
    let is : c.args.bytes.now ≡ c.in_ok-kind.kind ∷ c.in_ok-address_size.address_size ∷ c.in_ok-address_size.after_size.now = cc (c.in_ok-kind.ensures.found, c.in_ok-address_size.ensures.found) in
    on_any_error c.from_residual-in_err-entries.result _
    (no_new_after c.args.endian c.args.is_64_bit c.args.bytes.now c.in_ok-kind.kind c.in_ok-address_size.address_size c.in_ok-abbreviations.abbreviations c.in_ok-address_size.after_size.now c.in_ok-abbreviations.after_offset.now is
    c.in_ok-abbreviations.ensures.found c.in_err-entries.ensures.none)
