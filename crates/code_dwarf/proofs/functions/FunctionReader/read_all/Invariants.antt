use Rattle.std.proofs.Common.{length}
use Rattle.code_dwarf.proofs.functions.FunctionReader.read_all.Given as goal

abbrev pub decreases-entries : goal.decreases-entries
decreases-entries l = length l.rest
