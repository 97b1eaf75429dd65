use Rattle.std.proofs.Common.{length}
use Rattle.code_dwarf.proofs.line_tables.read_old_files.Given as goal

abbrev pub decreases-files : goal.decreases-files
decreases-files l = length l.rest
