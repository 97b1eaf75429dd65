use Rattle.std.proofs.Common.{rules, ◌≡◌, true, sym}
use Rattle.perfdata_profile.specs.Locating.{located_lists}
use Rattle.perfdata_profile.specs.Resolving.{frame_value}
use Rattle.perfdata_profile.specs.declared.cache.MappedAddress.{MappedAddress}
use Rattle.perfdata_profile.proofs.Looking.{cache_grows, cached_added, fixed_cached, hit_fixed, not_fixed}
use Rattle.perfdata_profile.proofs.locating.Locator.resolved_location.Goals as goal

pub returns-in_default-clause-within : goal.returns-in_default-clause-within
returns-in_default-clause-within g c = c.in_ok-unmapped.ensures.ok.found.within

pub returns-in_default-clause-ok : goal.returns-in_default-clause-ok
returns-in_default-clause-ok g c = λ mappings has holds. record {
  found = not_fixed g.R.Resolver.meaning c.args.self.now.detail (located_lists c.new_location.new.self) (frame_value c.args.frame.now) c.in_ok-unmapped.unmapped.id c.in_ok-unmapped.ensures.ok.found;
  cache = cache_grows g.R.Resolver.meaning c.args.self.now.detail mappings c.args.self.now c.new_location.new.self c.in_ok-unmapped.ensures.grows c.in_ok-unmapped.ensures.cache holds;
}

pub returns-in-Some-get-clause-within : goal.returns-in-Some-get-clause-within
returns-in-Some-get-clause-within g c = c.args.self.now.cached c.in-Some-get.ensures.0 _ c.in-Some-get.id c.in-Some-get.ensures.1

pub returns-in-Some-get-clause-ok : goal.returns-in-Some-get-clause-ok
returns-in-Some-get-clause-ok g c = λ mappings has holds.
    let at : MappedAddress = record { index = c.in-Some.index; address = c.lookup_address-address.result } in
    let cached = holds c.in-Some-get.ensures.0 at c.in-Some-get.id c.in-Some-get.ensures.1 in
    record {
      found = hit_fixed g.R.Resolver.meaning c.args.self.now.detail (located_lists c.args.self.now) mappings (frame_value c.args.frame.now) at c.in-Some-get.id c.in-Some.is (sym c.lookup_address-address.ensures) has cached;
      cache = holds;
    }

pub returns-then-not-new-clause-within : goal.returns-then-not-new-clause-within
returns-then-not-new-clause-within g c = c.in_ok-new.ensures.ok.found.within

pub returns-then-not-new-clause-ok : goal.returns-then-not-new-clause-ok
returns-then-not-new-clause-ok g c = λ mappings has holds. record {
  found = c.in_ok-new.ensures.ok;
  cache = cache_grows g.R.Resolver.meaning c.args.self.now.detail mappings c.args.self.now c.new_location-2.new.self c.in_ok-new.ensures.grows c.in_ok-new.ensures.cache holds;
}

pub returns-clause-within : goal.returns-clause-within
returns-clause-within g c = c.in_ok-new.ensures.ok.found.within

pub returns-clause-ok : goal.returns-clause-ok
returns-clause-ok g c = λ mappings has holds.
    let meaning = g.R.Resolver.meaning in
    let detail = c.args.self.now.detail in
    let lists = located_lists c.new_location-2.new.self in
    let at : MappedAddress = record { index = c.in-Some.index; address = c.lookup_address-address.result } in
    let fixed : c.in_ok-new.new.is_fixed ≡ true = search rules in
    let kept = cache_grows meaning detail mappings c.args.self.now c.new_location-2.new.self c.in_ok-new.ensures.grows c.in_ok-new.ensures.cache holds in
    let new = fixed_cached meaning detail lists mappings (frame_value c.args.frame.now) at c.in_ok-new.new c.in-Some.is (sym c.lookup_address-address.ensures) has fixed c.in_ok-new.ensures.ok in
    record {
      found = c.in_ok-new.ensures.ok;
      cache = cached_added meaning detail lists mappings c.new_location-2.new.self.cache c.insert.new.self at c.in_ok-new.new.id c.in_ok-insert.ensures.ok kept new;
    }
