use Rattle.std.proofs.Common.{length}
use Rattle.code_dwarf.proofs.line_tables.read_new_entry.Given as goal

abbrev pub decreases-fields : goal.decreases-fields
decreases-fields l = length l.fields
