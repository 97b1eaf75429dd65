use Rattle.std.proofs.Common.{drop}
use Rattle.perfdata_jit.proofs.RingFillings.{fills_after}
use Rattle.perfdata_jit.proofs.read_buffer.ReadBuffer.fill.Goals as goal

pub returns-clause-fills : goal.returns-clause-fills
returns-clause-fills g c = fills_after _ _ (drop c.args.self.now.overflow_start c.args.self.now.overflow.items) _ _ c.fill.result c.fill.ensures.fills
