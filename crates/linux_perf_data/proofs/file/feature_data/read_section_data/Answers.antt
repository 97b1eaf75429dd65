use Rattle.linux_perf_data.proofs.FeatureTables.{section_error}
use Rattle.linux_perf_data.proofs.file.feature_data.read_section_data.Goals as goal

pub returns-in-Err-clause-reads : goal.returns-in-Err-clause-reads
returns-in-Err-clause-reads g c =
    section_error c.args.section _ _ _ c.in-Err.error c.from.result c.in_ok-seek_to_offset.ensures.seeks.0 c.in_ok-seek_to_offset.ensures.seeks.1 c.in-Err.ensures.reads c.from.ensures
