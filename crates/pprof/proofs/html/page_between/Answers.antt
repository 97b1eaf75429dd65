use Rattle.std.proofs.Common.{arith}
use Rattle.std.proofs.lemmas.Grind.{common_steps}
use Rattle.pprof.proofs.html.page_between.Goals as goal

pub returns : goal.returns
returns c = record { start = c.args.start.now; end = c.args.end.now; is = grind (arith, common_steps) }
