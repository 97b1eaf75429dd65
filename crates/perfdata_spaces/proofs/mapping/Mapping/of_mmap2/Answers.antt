use Rattle.std.proofs.lemmas.Result.{err_from_is_err_and}
use Rattle.perfdata_sources.specs.Raw.{bytes_of}
use Rattle.perfdata_spaces.specs.Mappings.{build_id_of}
use Rattle.perfdata_spaces.proofs.Lists.{first_not_nil, second_not_nil}
use Rattle.perfdata_spaces.proofs.mapping.Mapping.of_mmap2.Goals as goal

pub returns-in_err-file_build_id-clause-memory : goal.returns-in_err-file_build_id-clause-memory
returns-in_err-file_build_id-clause-memory c =
    let p = err_from_is_err_and c.from_residual.result c.from_residual.ensures.1 in
    rw p.1 (first_not_nil (build_id_of c.args.record.now.file_id) (bytes_of c.args.record.now.path) c.in_err-file_build_id.ensures.memory)

pub returns-in_err-to_vec-clause-memory : goal.returns-in_err-to_vec-clause-memory
returns-in_err-to_vec-clause-memory c =
    let p = err_from_is_err_and c.from_residual-in_err-to_vec.result c.from_residual-in_err-to_vec.ensures.1 in
    rw p.1 (second_not_nil (build_id_of c.args.record.now.file_id) (bytes_of c.args.record.now.path) c.in_err-to_vec.ensures.memory)
