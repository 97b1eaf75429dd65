use Rattle.std.proofs.Common.{◌∙◌, refl, subst}
use Rattle.std.specs.Option.{option_map}
use Rattle.perfdata_profile.specs.Locating.{located_lists}
use Rattle.perfdata_profile.specs.steps.Locating.{AreFoundLines, IsFoundKey}
use Rattle.perfdata_profile.specs.Names.{names_of}
use Rattle.perfdata_profile.specs.Resolving.{frame_value}
use Rattle.perfdata_profile.specs.Interned.{line_lists_of, location_number, locations_of, ranges_of, stacks_of}
use Rattle.perfdata_profile.specs.Samples.{IsPlace}
use Rattle.perfdata_profile.specs.Values.{HasParts, lists_in, range_at}
use Rattle.perfdata_profile.specs.declared.locations.Location.{Location}
use Rattle.perfdata_profile.specs.declared.options.Detail.{Detail}
use Rattle.perfdata_profile.proofs.Growing.{lists_trans, location_result, location_within, locations_grow, result_grows}
use Rattle.perfdata_profile.proofs.Looking.{found_lines_kept, new_location}
use Rattle.perfdata_stacks.specs.Frames.{lookup_address}
use Rattle.perfdata_profile.proofs.locating.Locator.new_location.Goals as goal

pub invariant_of-self : goal.invariant_of-self
invariant_of-self g c =
    let tables = c.place.new.self.tables in
    let lists = located_lists c.place.new.self in
    let place = c.in_ok-place.place in
    let lines = c.in_ok-lines.lines in
    let kept = found_lines_kept g.R.Resolver.meaning (located_lists c.intern_lines.new.self) lists c.in_ok-place.ensures.grows.lists c.intern_lines.new.self.tables.within (frame_value c.args.frame.now) lines c.in_ok-lines.ensures.ok in
    let location : Location = record { mapping = place.mapping; address = place.address; lines = lines.id } in
    let parts : HasParts lists location = (kept.within, c.in_ok-place.ensures.ok.placed) in
    let within = location_result (names_of tables.names) (ranges_of tables.mappings) (line_lists_of tables.lines) (locations_of tables.locations) (stacks_of tables.stacks) tables.within location_number c.intern.result (locations_of c.intern.new.self) location parts c.intern.ensures.ok c.intern.ensures.err in
    let more = result_grows location_number c.intern.result (locations_of tables.locations) (locations_of c.intern.new.self) location c.intern.ensures.ok c.intern.ensures.err in
    let grows = locations_grow (names_of tables.names) (ranges_of tables.mappings) (line_lists_of tables.lines) (locations_of tables.locations) (stacks_of tables.stacks) (locations_of c.intern.new.self) more in
    ((within, tt), (λ index at id found. location_within lists (lists_in tables.names tables.mappings tables.lines c.intern.new.self tables.stacks) grows id (c.place.new.self.cached index at id found), tt))

pub returns-clause-grows : goal.returns-clause-grows
returns-clause-grows g c =
    let later = c.place.new.self.tables in
    let place = c.in_ok-place.place in
    let location : Location = record { mapping = place.mapping; address = place.address; lines = c.in_ok-lines.lines.id } in
    let first = located_lists c.args.self.now in
    let second = located_lists c.intern_lines.new.self in
    let third = located_lists c.place.new.self in
    let fourth = lists_in later.names later.mappings later.lines c.intern.new.self later.stacks in
    let more = result_grows location_number c.intern.result (locations_of later.locations) (locations_of c.intern.new.self) location c.intern.ensures.ok c.intern.ensures.err in
    let locations = locations_grow (names_of later.names) (ranges_of later.mappings) (line_lists_of later.lines) (locations_of later.locations) (stacks_of later.stacks) (locations_of c.intern.new.self) more in
    record {
      lists = lists_trans first second fourth c.in_ok-lines.ensures.grows.lists (lists_trans second third fourth c.in_ok-place.ensures.grows.lists locations);
      detail = c.in_ok-place.ensures.grows.detail ∙ c.in_ok-lines.ensures.grows.detail;
    }

pub returns-clause-ok : goal.returns-clause-ok
returns-clause-ok g c =
    let meaning = g.R.Resolver.meaning in
    let tables = c.place.new.self.tables in
    let lists = lists_in tables.names tables.mappings tables.lines c.intern.new.self tables.stacks in
    let place = c.in_ok-place.place in
    let lines = c.in_ok-lines.lines in
    let frame = frame_value c.args.frame.now in
    let kept = found_lines_kept meaning (located_lists c.intern_lines.new.self) (located_lists c.place.new.self) c.in_ok-place.ensures.grows.lists c.intern_lines.new.self.tables.within frame lines c.in_ok-lines.ensures.ok in
    let are : AreFoundLines meaning lists frame lines = record { within = kept.within; some = kept.some; are = kept.are; fixed = kept.fixed } in
    let location : Location = record { mapping = place.mapping; address = place.address; lines = lines.id } in
    let found : IsFoundKey meaning c.args.self.now.detail lists frame place = record {
      placed = c.in_ok-place.ensures.ok.placed;
      is = subst (λ (d : Detail). IsPlace meaning d frame.mapping (lookup_address frame.frame) (option_map (range_at lists) place.mapping) place.address) c.in_ok-lines.ensures.grows.detail c.in_ok-place.ensures.ok.is;
    } in
    new_location meaning c.args.self.now.detail lists frame location c.in_ok-id.id c.in_ok-id.ensures.ok.is_at lines refl are place refl refl found
