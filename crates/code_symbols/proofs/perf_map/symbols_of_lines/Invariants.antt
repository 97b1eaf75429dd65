use Rattle.std.proofs.Common.{◌+◌, ◌-◌, length}
use Rattle.code_symbols.specs.Text.{IsMapLine}
use Rattle.code_symbols.proofs.LineLemmas.{Lists}
use Rattle.code_symbols.proofs.perf_map.symbols_of_lines.Given as goal

abbrev pub invariant-lines : goal.invariant-lines
invariant-lines l = Lists IsMapLine l.text l.at l.symbols.items

abbrev pub decreases-lines : goal.decreases-lines
decreases-lines l = length l.text + 1 - l.at
