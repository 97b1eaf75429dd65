use Rattle.std.proofs.Common.{arith}
use Rattle.std.proofs.lemmas.Fmt.{length-decimal-le}
use Rattle.perfdata_listing_lines.proofs.line.prepend_optional.Goals as goal

pub prepend_number-requires : goal.prepend_number-requires
prepend_number-requires c = let long = length-decimal-le 20 c.in-Some.n (omega arith) (omega arith) (omega arith) in (omega arith, omega arith)
