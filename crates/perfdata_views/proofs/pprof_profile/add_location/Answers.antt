use Rattle.std.proofs.Common.{List, map, subst}
use Rattle.perfdata_profile.specs.Profiles.{lists_of}
use Rattle.perfdata_profile.specs.Samples.{AreRelated}
use Rattle.perfdata_profile.specs.Values.{LineValue, location_value}
use Rattle.perfdata_views.specs.PprofSamples.{IsLine, shown_line, shown_location}
use Rattle.perfdata_views.proofs.PprofConverting.{location_is}
use Rattle.perfdata_views.proofs.PprofTables.{extends_trans, location_extends, ok_of, on_ok_of}
use Rattle.pprof.specs.Builders.{tables_of}
use Rattle.pprof.specs.Tables.{Place}
use Rattle.perfdata_views.proofs.pprof_profile.add_location.Goals as goal

pub returns-clause-ok : goal.returns-clause-ok
returns-clause-ok c =
    let second = tables_of c.add_any_mapping.new.builder in
    let third = tables_of c.add_lines.new.builder in
    let last = tables_of c.location.new.self in
    let value = shown_location (location_value (lists_of c.args.tables.now) c.args.location) in
    let lines = c.in_ok-lines.lines.items in
    let row : Place = record { mapping_id = c.in_ok-mapping_id.mapping_id; address = c.args.location.address; lines = lines } in
    let are = subst (λ (values : List LineValue). AreRelated (IsLine third) lines (map shown_line values)) c.find_lines.ensures c.in_ok-lines.ensures.are in
    ok_of c.location.result (λ id identifies parts. location_is second third last value c.in_ok-mapping_id.mapping_id id lines
    (c.in_ok-mapping_id.ensures.ok c.args.location.address parts.1) c.in_ok-lines.ensures.extends are identifies
    (location_extends third last row id identifies c.location.ensures.once c.location.ensures.rest)) c.location.ensures.ok

pub returns-clause-extends : goal.returns-clause-extends
returns-clause-extends c =
    let first = tables_of c.args.builder.now in
    let second = tables_of c.add_any_mapping.new.builder in
    let third = tables_of c.add_lines.new.builder in
    let last = tables_of c.location.new.self in
    let row : Place = record { mapping_id = c.in_ok-mapping_id.mapping_id; address = c.args.location.address; lines = c.in_ok-lines.lines.items } in
    let before = extends_trans first second third c.in_ok-mapping_id.ensures.extends c.in_ok-lines.ensures.extends in
    on_ok_of c.location.result (λ id identifies. extends_trans first third last before (location_extends third last row id identifies c.location.ensures.once c.location.ensures.rest)) c.location.ensures.ok
