use Rattle.std.proofs.Common.{rules, ◌≡◌, of_z, to_z, w32}
use Rattle.std.proofs.lemmas.Int.{to_z-of_z}
use Rattle.std.specs.Option.{option_map}
use Rattle.perfdata_profile.proofs.Resolving.{cache_looked_up, location_looked_up}
use Rattle.perfdata_spaces.specs.Mappings.{mapping_value}
use Rattle.perfdata_profile.proofs.locating.Locator.location.Goals as goal

pub returns-clause-cache : goal.returns-clause-cache
returns-clause-cache g c =
    let pid : to_z w32 (of_z w32 c.args.origin.pid) ≡ c.args.origin.pid = to_z-of_z w32 c.args.origin.pid (search rules) in
    cache_looked_up g.R.Resolver.meaning c.args.self.now c.resolved_location.new.self c.args.spaces.now c.args.origin.pid c.args.origin.time c.args.frame c.find_index-index.result (option_map (λ m. mapping_value m.now) c.indexed_mapping.result) c.indexed_mapping.ensures c.lookup_address-address.result c.lookup_address-address.ensures (rw pid at c.find_index-index.ensures) c.resolved_location.result (rw pid at c.resolved_location.ensures.ok)

pub returns-clause-ok : goal.returns-clause-ok
returns-clause-ok g c =
    let pid : to_z w32 (of_z w32 c.args.origin.pid) ≡ c.args.origin.pid = to_z-of_z w32 c.args.origin.pid (search rules) in
    location_looked_up g.R.Resolver.meaning c.args.self.now c.resolved_location.new.self c.args.spaces.now c.args.origin.pid c.args.origin.time c.args.frame c.find_index-index.result (option_map (λ m. mapping_value m.now) c.indexed_mapping.result) c.indexed_mapping.ensures c.lookup_address-address.result c.lookup_address-address.ensures (rw pid at c.find_index-index.ensures) c.resolved_location.result (rw pid at c.resolved_location.ensures.ok)
