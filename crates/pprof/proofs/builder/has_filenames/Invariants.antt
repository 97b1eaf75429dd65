use Rattle.std.proofs.Common.{◌≡◌, false, take}
use Rattle.std.specs.List.{list_any}
use Rattle.pprof.specs.Tables.{has_filename}
use Rattle.pprof.proofs.builder.has_filenames.Given as goal

abbrev pub invariant-lines : goal.invariant-lines
invariant-lines l = list_any (has_filename l.functions.keys) (take l.line-index l.lines) ≡ false
