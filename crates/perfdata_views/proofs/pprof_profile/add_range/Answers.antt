use Rattle.std.proofs.Common.{◌∙◌, ℕ, List, Some, ap}
use Rattle.std.specs.Str.Lossy.{utf8_lossy}
use Rattle.hex.specs.Hex.{encode_lower}
use Rattle.perfdata_profile.specs.Profiles.{lists_of}
use Rattle.perfdata_profile.specs.Values.{range_value}
use Rattle.perfdata_views.specs.PprofSamples.{shown_range}
use Rattle.perfdata_views.proofs.PprofConverting.{file_is}
use Rattle.perfdata_views.proofs.PprofTables.{extends_trans, file_extends, ok_of, on_ok_of}
use Rattle.pprof.specs.Builders.{tables_of}
use Rattle.pprof.specs.declared.builder.MappedFile.{MappedFile}
use Rattle.perfdata_views.proofs.pprof_profile.add_range.Goals as goal

pub returns-clause-ok : goal.returns-clause-ok
returns-clause-ok c =
    let range = shown_range (range_value (lists_of c.args.tables.now) c.args.range) in
    let file : MappedFile = record { memory_start = range.start; memory_limit = range.end; file_offset = range.page_offset; filename = c.in_ok-filename.filename; build_id = c.in_ok-build_id.build_id } in
    ok_of c.mapping.result (λ id identifies. file_is (tables_of c.add_name.new.builder) (tables_of c.add_build_id.new.builder) (tables_of c.mapping.new.self) range
    c.in_ok-filename.filename c.in_ok-build_id.build_id id c.in_ok-filename.ensures.ok c.in_ok-build_id.ensures.extends
    (c.in_ok-build_id.ensures.ok ∙ ap (λ (bytes : List ℕ). Some (utf8_lossy (encode_lower bytes))) c.find_name.ensures) identifies
    (file_extends (tables_of c.add_build_id.new.builder) (tables_of c.mapping.new.self) file id identifies c.mapping.ensures.once c.mapping.ensures.rest)) c.mapping.ensures.ok

pub returns-clause-extends : goal.returns-clause-extends
returns-clause-extends c =
    let range = shown_range (range_value (lists_of c.args.tables.now) c.args.range) in
    let file : MappedFile = record { memory_start = range.start; memory_limit = range.end; file_offset = range.page_offset; filename = c.in_ok-filename.filename; build_id = c.in_ok-build_id.build_id } in
    let first = tables_of c.args.builder.now in
    let second = tables_of c.add_name.new.builder in
    let third = tables_of c.add_build_id.new.builder in
    let last = tables_of c.mapping.new.self in
    let before = extends_trans first second third c.in_ok-filename.ensures.extends c.in_ok-build_id.ensures.extends in
    on_ok_of c.mapping.result (λ id identifies. extends_trans first third last before (file_extends third last file id identifies c.mapping.ensures.once c.mapping.ensures.rest)) c.mapping.ensures.ok
