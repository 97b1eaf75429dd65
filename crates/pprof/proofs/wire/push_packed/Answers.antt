use Rattle.std.proofs.Common.{◌∙◌, sym}
use Rattle.pprof.proofs.Writing.{absent_packed}
use Rattle.pprof.proofs.wire.push_packed.Goals as goal

pub returns-then-is_empty : goal.returns-then-is_empty
returns-then-is_empty c = absent_packed c.args.field c.args.numbers.now c.args.bytes.now.items (sym c.is_empty.ensures ∙ c.if-is_empty.true)
