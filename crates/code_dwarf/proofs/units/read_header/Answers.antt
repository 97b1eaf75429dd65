use Rattle.code_dwarf.specs.steps.Units.{header_in}
use Rattle.code_dwarf.proofs.ErrorLemmas.{if_none_any}
use Rattle.code_dwarf.proofs.UnitLemmas.{no_header_fields}
use Rattle.code_dwarf.proofs.units.read_header.Goals as goal

pub returns-in_err-fields-clause-none : goal.returns-in_err-fields-clause-none
returns-in_err-fields-clause-none c =
    if_none_any (header_in c.from_residual-in_err-fields.result) _
    (no_header_fields c.args.endian c.args.is_64_bit c.args.contents.now c.in_ok-version.after_version.now c.in_ok-version.version c.in_ok-version.ensures.found c.in_err-fields.ensures.none)
