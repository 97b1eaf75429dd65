use Rattle.std.proofs.Common.{◌∙◌}
use Rattle.perfdata_profile.specs.SampleLists.{listed_in}
use Rattle.perfdata_profile.specs.SampleSums.{entries_of}
use Rattle.perfdata_profile.proofs.Listing.{lists_more, take_pushed}
use Rattle.perfdata_profile.proofs.builder.count_listed.Goals as goal

pub returns-in-Ok-clause-list : goal.returns-in-Ok-clause-list
returns-in-Ok-clause-list c =
    let at = c.in-Ok.ensures.entry c.entry_index-entry.result c.entry_index-entry.ensures in
    lists_more (entries_of c.args.sums.now) (entries_of c.add.new.self) c.args.samples.now c.push.new.self c.args.key c.args.time c.args.weight c.entry_index-entry.result at.0 c.in-Ok.ensures.keys at.1 c.in_ok-push.ensures.ok

pub returns-in-Err-clause-same : goal.returns-in-Err-clause-same
returns-in-Err-clause-same c = c.remove_last.ensures ∙ take_pushed (listed_in c.args.samples.now) _ (listed_in c.push.new.self) c.in_ok-push.ensures.ok
