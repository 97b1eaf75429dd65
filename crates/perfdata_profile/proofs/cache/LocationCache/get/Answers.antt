use Rattle.std.proofs.Common.{◌∙◌}
use Rattle.perfdata_profile.proofs.Caching.{found_cached}
use Rattle.perfdata_profile.proofs.cache.LocationCache.get.Goals as goal

pub returns : goal.returns
returns c = found_cached c.args.self.now.ids.entries c.args.at c.copied.result (c.copied.ensures ∙ c.get.ensures.value)
