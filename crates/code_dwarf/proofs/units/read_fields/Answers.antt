use Rattle.std.proofs.Common.{◌≤◌, arith}
use Rattle.code_dwarf.proofs.ErrorLemmas.{on_error_map}
use Rattle.code_dwarf.proofs.UnitLemmas.{no_fields_old, no_fields_new}
use Rattle.code_dwarf.proofs.units.read_fields.Goals as goal

pub returns-in-5-clause-none : goal.returns-in-5-clause-none
returns-in-5-clause-none c = on_error_map c.read_new_fields.result _ _ (no_fields_new c.args.endian c.args.version c.args.is_64_bit c.args.bytes.now c.in-5.is) c.read_new_fields.ensures.none

pub returns-in-2-to-4-clause-none : goal.returns-in-2-to-4-clause-none
returns-in-2-to-4-clause-none c =
    let small : c.args.version ≤ 4 = omega arith in
    on_error_map c.read_old_fields.result _ _ (no_fields_old c.args.endian c.args.version c.args.is_64_bit c.args.bytes.now small) c.read_old_fields.ensures.none
