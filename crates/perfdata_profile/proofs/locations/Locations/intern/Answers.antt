use Rattle.perfdata_profile.proofs.Deciding.{eq_location, location-Decides}
use Rattle.perfdata_profile.proofs.Searching.{insertion_once}
use Rattle.perfdata_profile.proofs.locations.Locations.intern.Goals as goal

pub invariant_of-self : goal.invariant_of-self
invariant_of-self c = record { once = insertion_once eq_location location-Decides c.insert_full.result c.args.self.now.locations.keys c.insert_full.new.self.keys c.args.location c.args.self.now.once c.insert_full.ensures.keys c.insert_full.ensures.err }
