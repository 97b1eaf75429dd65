use Rattle.perfdata_views.proofs.PprofTables.{file_extends, on_ok_of}
use Rattle.pprof.specs.Builders.{tables_of}
use Rattle.pprof.specs.declared.builder.MappedFile.{MappedFile}
use Rattle.perfdata_views.proofs.pprof_profile.add_program.Goals as goal

pub returns-in-None : goal.returns-in-None
returns-in-None c =
    let file : MappedFile = record { memory_start = 0; memory_limit = 0; file_offset = 0; filename = 0; build_id = 0 } in
    on_ok_of c.mapping.result (λ id identifies. file_extends (tables_of c.args.builder.now) (tables_of c.mapping.new.self) file id identifies
    c.mapping.ensures.once c.mapping.ensures.rest) c.mapping.ensures.ok
