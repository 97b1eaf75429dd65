use Rattle.perfdata_views.proofs.Counting.{lists_lines}
use Rattle.perfdata_views.proofs.counts.LineCounts.iter.Goals as goal

pub returns-clause-lines : goal.returns-clause-lines
returns-clause-lines c = λ added counts. lists_lines c.args.self.now added c.iter.ensures.ordered counts
