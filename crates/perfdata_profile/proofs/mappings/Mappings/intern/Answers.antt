use Rattle.perfdata_profile.proofs.Deciding.{eq_range, range-Decides}
use Rattle.perfdata_profile.proofs.Searching.{insertion_once}
use Rattle.perfdata_profile.proofs.mappings.Mappings.intern.Goals as goal

pub invariant_of-self : goal.invariant_of-self
invariant_of-self c = record { once = insertion_once eq_range range-Decides c.insert_full.result c.args.self.now.ranges.keys c.insert_full.new.self.keys c.args.range c.args.self.now.once c.insert_full.ensures.keys c.insert_full.ensures.err }
