use Rattle.std.proofs.Common.{◌∙◌}
use Rattle.linux_perf_data.proofs.UnfinishedFiles.{some_mapped}
use Rattle.linux_perf_data.proofs.file.unfinished.has_meta_info.Goals as goal

pub returns : goal.returns
returns c = c.is_some.ensures ∙ some_mapped _ _ _ c.feature_bytes.ensures
