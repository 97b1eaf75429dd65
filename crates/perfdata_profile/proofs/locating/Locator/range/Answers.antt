use Rattle.std.proofs.Common.{rules, ◌≡◌, ◌≤◌, ◌<◌, arith, refl}
use Rattle.std.proofs.lemmas.Option.{slice_get_within}
use Rattle.perfdata_profile.specs.Names.{names_of, number_of}
use Rattle.perfdata_profile.specs.Samples.{end_of}
use Rattle.perfdata_profile.specs.Interned.{line_lists_of, locations_of, mapping_number, ranges_of, stacks_of}
use Rattle.perfdata_profile.specs.Values.{HasFile, lists_in}
use Rattle.perfdata_profile.specs.declared.mappings.MappedRange.{MappedRange}
use Rattle.perfdata_profile.proofs.Growing.{names_within, range_result}
use Rattle.perfdata_profile.proofs.Looking.{found_range}
use Rattle.perfdata_spaces.specs.Mappings.{mapping_value}
use Rattle.perfdata_profile.proofs.locating.Locator.range.Goals as goal

pub invariant_of-self-2 : goal.invariant_of-self-2
invariant_of-self-2 g c =
    let tables = c.args.self.now.tables in
    let named = c.in_ok-file.ensures.named in
    let range : MappedRange = record { start = c.args.mapping.now.start; end = c.saturating_add-end.result; page_offset = c.args.mapping.now.page_offset; path = c.in_ok-file.file.path; build_id = c.in_ok-file.file.build_id } in
    let more = names_of c.file.new.names in
    let kept = names_within (names_of tables.names) (ranges_of tables.mappings) (line_lists_of tables.lines) (locations_of tables.locations) (stacks_of tables.stacks) tables.within more c.file.ensures.grows in
    let file : HasFile (lists_in c.file.new.names tables.mappings tables.lines tables.locations tables.stacks) range = (slice_get_within more (number_of c.in_ok-file.file.path) named.path named.path_at, slice_get_within more (number_of c.in_ok-file.file.build_id) named.build_id named.build_id_at) in
    let within = range_result more (ranges_of tables.mappings) (line_lists_of tables.lines) (locations_of tables.locations) (stacks_of tables.stacks) kept mapping_number c.intern.result (ranges_of c.intern.new.self) range file c.intern.ensures.ok c.intern.ensures.err in
    ((within, tt), (c.args.self.now.cached, tt))

pub returns-clause-ok : goal.returns-clause-ok
returns-clause-ok g c =
    let tables = c.args.self.now.tables in
    let lists = lists_in c.file.new.names c.intern.new.self tables.lines tables.locations tables.stacks in
    let mapping = mapping_value c.args.mapping.now in
    let end : c.saturating_add-end.result ≡ end_of mapping = search rules in
    let first : c.args.mapping.now.start ≤ c.args.address = omega arith in
    let last : c.args.address < c.saturating_add-end.result = omega arith in
    found_range g.R.Resolver.meaning lists mapping c.args.address _ c.in_ok-id.id c.in_ok-file.file c.in_ok-id.ensures.ok.is_at refl end refl refl refl c.in_ok-file.ensures.named first last
