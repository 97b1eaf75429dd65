use Rattle.perfdata_profile.specs.Locating.{located_lists}
use Rattle.perfdata_profile.proofs.Building.{locator_trans, more_locations, next_stacks}
use Rattle.perfdata_profile.proofs.Growing.{locations_within}
use Rattle.perfdata_profile.proofs.builder.set_stack.Goals as goal

pub frames-preserved : goal.frames-preserved
frames-preserved g c =
    let first = c.args.locator.now in
    let old = c.frames.locator in
    let new = c.location.new.self in
    let stack = c.frames.stack.items in
    let more = c.push.new.self.items in
    let id = c.in_ok-location.location.id in (
      locator_trans first old new c.frames.invariant.0 c.in_ok-location.ensures.grows,
      more_locations (located_lists new) stack more id c.in_ok-push.ensures.items (locations_within (located_lists old) (located_lists new) c.in_ok-location.ensures.grows.lists stack c.frames.invariant.1) c.in_ok-location.ensures.within,
      λ before follows holds. next_stacks g.R.Resolver.meaning first old new c.args.spaces.now c.args.origin.pid c.args.origin.time c.args.frames.now c.frames.frame-index _ c.frames-test.true stack more id c.frames.invariant.0 c.in_ok-location.ensures.grows c.in_ok-push.ensures.items c.in_ok-location.ensures.within c.frames.is_fixed c.in_ok-location.location.is_fixed c.are_both-is_fixed.result c.are_both-is_fixed.ensures before (c.frames.invariant.2 before follows holds) (c.in_ok-location.ensures.cache before follows) (c.in_ok-location.ensures.ok before follows),
    )

pub returns-clause-cache : goal.returns-clause-cache
returns-clause-cache g c = λ before follows holds. (c.frames.invariant.2 before follows holds).0
