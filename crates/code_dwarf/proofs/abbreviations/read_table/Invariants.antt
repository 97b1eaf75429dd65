use Rattle.std.proofs.Common.{length}
use Rattle.code_dwarf.proofs.abbreviations.read_table.Given as goal

abbrev pub decreases-abbreviations : goal.decreases-abbreviations
decreases-abbreviations l = length l.rest
