use Rattle.std.proofs.Common.{◌≡◌, map, take}
use Rattle.pprof.specs.Tables.{known_line}
use Rattle.pprof.proofs.builder.known_lines.Given as goal

abbrev pub invariant-lines : goal.invariant-lines
invariant-lines l = l.known_lines.items ≡ map (known_line l.function_count) (take l.line-index l.lines)
