use Rattle.std.proofs.Common.{◌≤◌, length}
use Rattle.code_dwarf.proofs.entries.Entry.rest_by_values.Given as goal

abbrev pub invariant-attributes : goal.invariant-attributes
invariant-attributes l = length l.rest ≤ length l.self.values.now
