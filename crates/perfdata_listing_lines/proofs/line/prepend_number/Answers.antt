use Rattle.std.proofs.Common.{arith}
use Rattle.std.proofs.lemmas.Fmt.{length-decimal-le}
use Rattle.perfdata_listing_lines.proofs.line.prepend_number.Goals as goal

pub returns-clause-at_most_21 : goal.returns-clause-at_most_21
returns-clause-at_most_21 c = let long = length-decimal-le 20 c.args.n (omega arith) (omega arith) (omega arith) in omega arith
