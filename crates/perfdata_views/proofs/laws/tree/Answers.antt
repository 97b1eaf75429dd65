use Rattle.perfdata_views.proofs.EntryStacks.{entries_have_tree}
use Rattle.perfdata_views.proofs.laws.tree.Goals as goal

pub returns : goal.returns
returns c = entries_have_tree
