use Rattle.std.proofs.Common.{take}
use Rattle.perfdata_profile.specs.Samples.{AreRelated}
use Rattle.perfdata_views.specs.steps.Numbering.{IsReranked}
use Rattle.perfdata_views.proofs.entry_tree.ranked_stacks.Given as goal

abbrev pub invariant-stacks : goal.invariant-stacks
invariant-stacks l = AreRelated (IsReranked l.ranks) (take l.stack-index l.stacks) l.ranked.items
