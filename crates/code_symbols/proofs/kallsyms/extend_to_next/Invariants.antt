use Rattle.code_symbols.proofs.KernelSizeLemmas.{Extends}
use Rattle.code_symbols.proofs.kallsyms.extend_to_next.Given as goal

abbrev pub invariant-symbols : goal.invariant-symbols
invariant-symbols l = Extends l.fn.symbols l.symbols l.at l.end l.next_start

abbrev pub decreases-symbols : goal.decreases-symbols
decreases-symbols l = l.at
