use Rattle.std.proofs.Common.{length}
use Rattle.code_dwarf.proofs.line_tables.read_old_directories.Given as goal

abbrev pub decreases-directories : goal.decreases-directories
decreases-directories l = length l.rest
