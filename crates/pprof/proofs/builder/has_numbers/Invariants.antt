use Rattle.std.proofs.Common.{◌≡◌, false, take}
use Rattle.std.specs.List.{list_any}
use Rattle.pprof.specs.Tables.{has_number}
use Rattle.pprof.proofs.builder.has_numbers.Given as goal

abbrev pub invariant-lines : goal.invariant-lines
invariant-lines l = list_any has_number (take l.line-index l.lines) ≡ false
