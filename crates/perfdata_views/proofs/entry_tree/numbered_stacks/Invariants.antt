use Rattle.std.proofs.Common.{take}
use Rattle.perfdata_profile.specs.Names.{names_of}
use Rattle.perfdata_profile.specs.Samples.{AreRelated}
use Rattle.perfdata_views.specs.Entries.{entries_in}
use Rattle.perfdata_views.specs.steps.Numbering.{IsNumbered}
use Rattle.perfdata_views.proofs.entry_tree.numbered_stacks.Given as goal

abbrev pub invariant-entries : goal.invariant-entries
invariant-entries l = AreRelated (IsNumbered (names_of l.texts)) (take l.index (entries_in l.profile)) l.stacks.items
