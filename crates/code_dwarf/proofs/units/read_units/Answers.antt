use Rattle.std.proofs.Common.{◌++◌, ◌∷◌, [], List, length, arith, sym, ◌∙◌, ap}
use Rattle.std.specs.Option.{option_to_list}
use Rattle.code_dwarf.specs.steps.Units.{header_in}
use Rattle.code_dwarf.specs.declared.units.UnitHeader.{UnitHeader}
use Rattle.code_dwarf.proofs.UnitLemmas.{pieces_push, units_more}
use Rattle.code_dwarf.proofs.units.read_units.Goals as goal

pub units-preserved : goal.units-preserved
units-preserved c =
    let p = header_in c.in-Ok.read.0 in
    let run = c.units.invariant.run in
    let shorter = c.in-Ok.ensures.shorter in
    record {
      within = omega (arith, shorter, c.units.invariant.within);
      run = (
        run.0 ++ p ∷ [],
        pieces_push c.args.endian (length c.args.info.now) c.args.info.now c.units.rest.now c.in-Ok.read.1.now run.0 p run.1 c.in-Ok.ensures.found,
        c.in_ok-add_unit.ensures ∙ ap (λ (us : List UnitHeader). us ++ option_to_list p) run.2 ∙ sym (units_more run.0 p),
      );
    }
