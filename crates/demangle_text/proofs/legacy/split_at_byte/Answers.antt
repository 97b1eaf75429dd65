use Rattle.demangle_text.proofs.FindLemmas.{cut_at, no_byte}
use Rattle.demangle_text.proofs.legacy.split_at_byte.Goals as goal

pub returns-in_err-end-clause-none : goal.returns-in_err-end-clause-none
returns-in_err-end-clause-none c = rw c.from_residual.ensures (no_byte c.args.byte c.args.bytes.now c.in_err-end.ensures)

pub returns-clause-split : goal.returns-clause-split
returns-clause-split c = (cut_at c.args.byte c.args.bytes.now c.in_ok-end.end c.in_ok-end.ensures.0 c.in_ok-end.ensures.1).0

pub returns-clause-first : goal.returns-clause-first
returns-clause-first c = (cut_at c.args.byte c.args.bytes.now c.in_ok-end.end c.in_ok-end.ensures.0 c.in_ok-end.ensures.1).1
