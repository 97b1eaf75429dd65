use Rattle.perfdata_profile.proofs.Caching.{added_cached}
use Rattle.perfdata_profile.proofs.cache.LocationCache.insert.Goals as goal

pub returns-clause-ok : goal.returns-clause-ok
returns-clause-ok c = added_cached c.args.self.now.ids.entries c.insert.new.self.entries c.args.at c.args.id c.in_ok-insert.ensures.entries
