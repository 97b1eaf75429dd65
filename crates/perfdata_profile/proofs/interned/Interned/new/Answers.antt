use Rattle.perfdata_profile.specs.Values.{lists_in}
use Rattle.perfdata_profile.proofs.Growing.{empty_within}
use Rattle.perfdata_profile.proofs.interned.Interned.new.Goals as goal

pub invariant_of-result : goal.invariant_of-result
invariant_of-result c = record { within = empty_within (lists_in c.new.result c.new-2.result c.new-3.result c.new-4.result c.new-5.result) c.new-2.ensures.none c.new-3.ensures.none c.new-4.ensures.none c.new-5.ensures.none }
