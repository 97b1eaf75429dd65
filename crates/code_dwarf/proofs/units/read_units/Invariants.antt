use Rattle.std.proofs.Common.{◌≡◌, ◌≤◌, List, Option, length}
use Rattle.code_dwarf.specs.steps.Units.{Pieces, units_of}
use Rattle.code_dwarf.specs.declared.units.UnitHeader.{UnitHeader}
use Rattle.code_dwarf.proofs.units.read_units.Given as goal

abbrev pub invariant-units : goal.invariant-units
invariant-units l = record {
  within : length l.rest ≤ length l.info;
  run : (ps : List (Option UnitHeader)) × Pieces l.endian (length l.info) l.info ps l.rest × (l.units.items ≡ units_of ps);
}

abbrev pub decreases-units : goal.decreases-units
decreases-units l = length l.rest
