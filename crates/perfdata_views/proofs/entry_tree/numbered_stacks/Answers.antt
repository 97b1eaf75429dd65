use Rattle.std.proofs.Common.{arith, refl}
use Rattle.perfdata_profile.specs.Names.{names_of}
use Rattle.perfdata_profile.specs.Profiles.{lists_of}
use Rattle.perfdata_profile.specs.SampleSums.{entries_of}
use Rattle.perfdata_views.specs.declared.tree.RankedStack.{RankedStack}
use Rattle.perfdata_views.proofs.Numbered.{numbered_all, numbered_next}
use Rattle.perfdata_views.proofs.entry_tree.numbered_stacks.Goals as goal

pub entries-preserved : goal.entries-preserved
entries-preserved c =
    let stack : RankedStack = record { ranks = c.in_ok-ranks.ranks; weight = c.find_entry.result.1.weight } in
    numbered_next (lists_of c.args.profile.now.tables) (entries_of c.args.profile.now.sums) c.entries.index c.find_entry.result c.find_entry.ensures (names_of c.entries.texts) (names_of c.numbers.new.texts) c.entries.stacks.items c.push.new.self.items stack c.entries.invariant c.in_ok-ranks.ensures refl c.in_ok-push.ensures.items

pub returns : goal.returns
returns c = numbered_all (lists_of c.args.profile.now.tables) (entries_of c.args.profile.now.sums) c.entries.index (names_of c.entries.texts) c.entries.stacks.items (omega (arith, c.len-index-end.ensures)) c.entries.invariant
