use Rattle.std.proofs.Common.{ℕ, take, List, Option}
use Rattle.perfdata_profile.specs.steps.Building.{HasStack}
use Rattle.perfdata_profile.specs.Locating.{CacheHolds, located_lists}
use Rattle.perfdata_profile.specs.steps.Locating.{IsTime, LocatorGrows}
use Rattle.perfdata_profile.specs.Values.{AreLocations}
use Rattle.perfdata_spaces.specs.AddressSpaces.{Follows, mapping_values}
use Rattle.perfdata_spaces.specs.Effects.{Applied}
use Rattle.perfdata_profile.proofs.builder.set_stack.Given as goal

abbrev pub invariant-frames : goal.invariant-frames
invariant-frames g l = LocatorGrows l.initial.locator l.locator
    × AreLocations (located_lists l.locator) l.stack.items
    × ((before : List Applied) → Follows before l.fn.spaces → CacheHolds g.R.Resolver.meaning l.initial.locator.detail (mapping_values l.fn.spaces) l.initial.locator
    → CacheHolds g.R.Resolver.meaning l.initial.locator.detail (mapping_values l.fn.spaces) l.locator
    × ((time : Option ℕ) → IsTime l.is_fixed l.origin.time time → HasStack g.R.Resolver.meaning (located_lists l.locator) l.initial.locator.detail before l.origin.pid time (take l.frame-index l.frames) l.stack.items))
