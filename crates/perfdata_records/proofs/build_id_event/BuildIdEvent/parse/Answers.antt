use Rattle.std.proofs.lemmas.Result.{err_from_is_err_and}
use Rattle.perfdata_records.proofs.BuildIds.{entry_io_error}
use Rattle.perfdata_records.proofs.build_id_event.BuildIdEvent.parse.Goals as goal

pub returns-in_err-read_from : goal.returns-in_err-read_from
returns-in_err-read_from g c =
    let p = err_from_is_err_and c.from_residual.result c.from_residual.ensures.1 in
    (g.R.Source.state c.read_from.new.source, rw p.1 (entry_io_error g.T.ByteOrder.number_of _ _ _ p.0 c.in_err-read_from.ensures.reads p.2))
