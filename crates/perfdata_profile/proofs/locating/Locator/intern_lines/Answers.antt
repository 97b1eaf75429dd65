use Rattle.std.proofs.Common.{◌∙◌, ap, List, refl, Some, subst, sym}
use Rattle.perfdata_profile.specs.Interned.{line_lists_of, lines_number, locations_of, ranges_of, stacks_of}
use Rattle.perfdata_profile.specs.Locating.{located_lists}
use Rattle.perfdata_profile.specs.Names.{names_of}
use Rattle.perfdata_profile.specs.Resolving.{frame_value}
use Rattle.perfdata_profile.specs.Values.{AreNamedIn, lists_in}
use Rattle.perfdata_profile.specs.declared.lines.Line.{Line}
use Rattle.perfdata_profile.proofs.Growing.{lines_grow, lines_result, lists_trans, names_grow, names_within, result_grows}
use Rattle.perfdata_profile.proofs.Looking.{found_lines}
use Rattle.perfdata_profile.proofs.locating.Locator.intern_lines.Goals as goal

pub invariant_of-self-2 : goal.invariant_of-self-2
invariant_of-self-2 g c =
    let tables = c.args.self.now.tables in
    let names = names_of c.frame_lines.new.names in
    let named = subst (AreNamedIn names) (sym c.as_slice.ensures.value) c.in_ok-is_fixed.ensures.lines.named in
    let kept = names_within (names_of tables.names) (ranges_of tables.mappings) (line_lists_of tables.lines) (locations_of tables.locations) (stacks_of tables.stacks) tables.within names c.frame_lines.ensures.grows in
    let within = lines_result names (ranges_of tables.mappings) (line_lists_of tables.lines) (locations_of tables.locations) (stacks_of tables.stacks) kept lines_number c.intern.result (line_lists_of c.intern.new.self) c.as_slice.result.now named c.intern.ensures.ok c.intern.ensures.err in
    ((within, tt), (c.args.self.now.cached, tt))

pub returns-clause-grows : goal.returns-clause-grows
returns-clause-grows g c =
    let tables = c.args.self.now.tables in
    let names = names_of c.frame_lines.new.names in
    let first = located_lists c.args.self.now in
    let second = lists_in c.frame_lines.new.names tables.mappings tables.lines tables.locations tables.stacks in
    let third = lists_in c.frame_lines.new.names tables.mappings c.intern.new.self tables.locations tables.stacks in
    let more = result_grows lines_number c.intern.result (line_lists_of tables.lines) (line_lists_of c.intern.new.self) c.as_slice.result.now c.intern.ensures.ok c.intern.ensures.err in
    let lines = lines_grow names (ranges_of tables.mappings) (line_lists_of tables.lines) (locations_of tables.locations) (stacks_of tables.stacks) (line_lists_of c.intern.new.self) more in
    record {
      lists = lists_trans first second third (names_grow (names_of tables.names) (ranges_of tables.mappings) (line_lists_of tables.lines) (locations_of tables.locations) (stacks_of tables.stacks) names c.frame_lines.ensures.grows) lines;
      detail = refl;
    }

pub returns-clause-ok : goal.returns-clause-ok
returns-clause-ok g c =
    let tables = c.args.self.now.tables in
    let lists = lists_in c.frame_lines.new.names tables.mappings c.intern.new.self tables.locations tables.stacks in
    let at = c.in_ok-id.ensures.ok.is_at ∙ ap (λ (l : List Line). Some l) c.as_slice.ensures.value in
    found_lines g.R.Resolver.meaning lists (frame_value c.args.frame.now) c.frame_lines.new.lines.items c.in_ok-id.id c.in_ok-is_fixed.is_fixed at c.in_ok-is_fixed.ensures.lines
