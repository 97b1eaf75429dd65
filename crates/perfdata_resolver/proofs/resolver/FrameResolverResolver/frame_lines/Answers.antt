use Rattle.perfdata_resolver.proofs.resolver.FrameResolverResolver.frame_lines.Goals as goal

pub returns-then-not-found-clause-lines : goal.returns-then-not-found-clause-lines
returns-then-not-found-clause-lines c = c.in_ok-push_lines.ensures.lines _

pub returns-else-not-found-clause-lines : goal.returns-else-not-found-clause-lines
returns-else-not-found-clause-lines c = c.in_ok-push_lines.ensures.lines _
