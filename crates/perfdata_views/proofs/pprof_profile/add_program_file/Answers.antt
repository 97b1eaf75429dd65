use Rattle.std.specs.Str.Lossy.{utf8_lossy}
use Rattle.perfdata_views.proofs.PprofTables.{extends_trans, file_extends, interned_extends, on_ok_of}
use Rattle.pprof.specs.Builders.{tables_of}
use Rattle.pprof.specs.declared.builder.MappedFile.{MappedFile}
use Rattle.perfdata_views.proofs.pprof_profile.add_program_file.Goals as goal

pub returns : goal.returns
returns c =
    let program = c.args.program in
    let file : MappedFile = record { memory_start = program.start; memory_limit = program.end; file_offset = program.page_offset; filename = c.in_ok-filename.filename; build_id = c.in_ok-build_id.build_id } in
    let first = tables_of c.args.builder.now in
    let second = tables_of c.text.new.self in
    let third = tables_of c.add_build_id.new.builder in
    let last = tables_of c.mapping.new.self in
    let before = extends_trans first second third
    (interned_extends first second (utf8_lossy program.path.now) c.in_ok-filename.filename c.in_ok-filename.ensures.ok c.text.ensures.once c.text.ensures.rest) c.in_ok-build_id.ensures.extends in
    on_ok_of c.mapping.result (λ id identifies. extends_trans first third last before (file_extends third last file id identifies c.mapping.ensures.once c.mapping.ensures.rest)) c.mapping.ensures.ok
