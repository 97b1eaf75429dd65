use Rattle.linux_perf_data.proofs.PipeFinish.{after_done}
use Rattle.linux_perf_data.proofs.pipe.opening.open_after_header.Goals as goal

pub returns-clause-opens : goal.returns-clause-opens
returns-clause-opens g c =
    after_done c.args.endian (g.R.Source.state c.args.source.now) (g.R.Source.state c.read_metadata.new.source) _ _ c.finish_opening.result c.in_ok-metadata.ensures.reads c.finish_opening.ensures
