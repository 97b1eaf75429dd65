use Rattle.std.proofs.Common.{◌∙◌, ap, List, Some, subst, sym}
use Rattle.perfdata_profile.specs.Locating.{located_lists}
use Rattle.perfdata_profile.specs.Names.{names_of}
use Rattle.perfdata_profile.specs.Interned.{line_lists_of, locations_of, ranges_of, stack_number, stacks_of}
use Rattle.perfdata_profile.specs.steps.Building.{HasStack}
use Rattle.perfdata_profile.specs.Values.{AreLocations, lists_in}
use Rattle.perfdata_profile.specs.declared.locations.LocationId.{LocationId}
use Rattle.perfdata_profile.proofs.Building.{stack_of}
use Rattle.perfdata_profile.proofs.Growing.{lists_trans, result_grows, stack_result, stacks_grow}
use Rattle.perfdata_profile.proofs.Looking.{cached_kept}
use Rattle.perfdata_spaces.specs.AddressSpaces.{mapping_values}
use Rattle.perfdata_stacks.specs.declared.frames.SampleFrame.{SampleFrame}
use Rattle.perfdata_profile.proofs.builder.ProfileBuilder.new_stack.Goals as goal

pub invariant_of-self : goal.invariant_of-self
invariant_of-self g c =
    let tables = c.set_stack.new.locator.tables in
    let ids = subst (AreLocations (located_lists c.set_stack.new.locator)) (sym c.as_slice-2.ensures.value) c.in_ok-is_fixed.ensures.within in
    let within = stack_result (names_of tables.names) (ranges_of tables.mappings) (line_lists_of tables.lines) (locations_of tables.locations) (stacks_of tables.stacks) tables.within stack_number c.intern.result (stacks_of c.intern.new.self) c.as_slice-2.result.now ids c.intern.ensures.ok c.intern.ensures.err in
    ((within, tt), (c.set_stack.new.locator.cached, tt))

pub returns-clause-grows : goal.returns-clause-grows
returns-clause-grows g c =
    let tables = c.set_stack.new.locator.tables in
    let first = located_lists c.args.self.now.locator in
    let second = located_lists c.set_stack.new.locator in
    let third = lists_in tables.names tables.mappings tables.lines tables.locations c.intern.new.self in
    let more = result_grows stack_number c.intern.result (stacks_of tables.stacks) (stacks_of c.intern.new.self) c.as_slice-2.result.now c.intern.ensures.ok c.intern.ensures.err in
    let stacks = stacks_grow (names_of tables.names) (ranges_of tables.mappings) (line_lists_of tables.lines) (locations_of tables.locations) (stacks_of tables.stacks) (stacks_of c.intern.new.self) more in
    record {
      lists = lists_trans first second third c.in_ok-is_fixed.ensures.grows.lists stacks;
      detail = c.in_ok-is_fixed.ensures.grows.detail;
    }

pub returns-clause-cache : goal.returns-clause-cache
returns-clause-cache g c = λ before follows holds.
    let tables = c.set_stack.new.locator.tables in
    let first = located_lists c.set_stack.new.locator in
    let second = lists_in tables.names tables.mappings tables.lines tables.locations c.intern.new.self in
    let more = result_grows stack_number c.intern.result (stacks_of tables.stacks) (stacks_of c.intern.new.self) c.as_slice-2.result.now c.intern.ensures.ok c.intern.ensures.err in
    let grows = stacks_grow (names_of tables.names) (ranges_of tables.mappings) (line_lists_of tables.lines) (locations_of tables.locations) (stacks_of tables.stacks) (stacks_of c.intern.new.self) more in
    cached_kept g.R.Resolver.meaning c.args.self.now.locator.detail first second grows tables.within (mapping_values c.args.self.now.spaces) c.set_stack.new.locator.cache (c.in_ok-is_fixed.ensures.cache before follows holds)

pub returns-clause-ok : goal.returns-clause-ok
returns-clause-ok g c = λ before follows holds time at_time.
    let meaning = g.R.Resolver.meaning in
    let detail = c.args.self.now.locator.detail in
    let tables = c.set_stack.new.locator.tables in
    let first = located_lists c.set_stack.new.locator in
    let second = lists_in tables.names tables.mappings tables.lines tables.locations c.intern.new.self in
    let stack = c.set_stack.new.stack.items in
    let more = result_grows stack_number c.intern.result (stacks_of tables.stacks) (stacks_of c.intern.new.self) c.as_slice-2.result.now c.intern.ensures.ok c.intern.ensures.err in
    let grows = stacks_grow (names_of tables.names) (ranges_of tables.mappings) (line_lists_of tables.lines) (locations_of tables.locations) (stacks_of tables.stacks) (stacks_of c.intern.new.self) more in
    let at = c.in_ok-id.ensures.ok.is_at ∙ ap (λ (ids : List LocationId). Some ids) c.as_slice-2.ensures.value in
    let located = subst (λ (frames : List SampleFrame). HasStack meaning first detail before c.args.origin.pid time frames stack) c.as_slice.ensures.value (c.in_ok-is_fixed.ensures.ok before follows holds time at_time) in
    stack_of meaning first second grows tables.within detail before c.args.origin.pid time c.args.self.now.frames.items c.in_ok-id.id stack at located
