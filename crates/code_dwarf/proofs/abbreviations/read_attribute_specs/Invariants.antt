use Rattle.std.proofs.Common.{◌≤◌, length}
use Rattle.code_dwarf.proofs.abbreviations.read_attribute_specs.Given as goal

abbrev pub invariant-attributes : goal.invariant-attributes
invariant-attributes l = length l.rest ≤ length l.bytes

abbrev pub decreases-attributes : goal.decreases-attributes
decreases-attributes l = length l.rest
