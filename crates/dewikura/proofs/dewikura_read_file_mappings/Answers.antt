use Rattle.dewikura.proofs.dewikura_read_file_mappings.Goals as goal

pub returns : goal.returns
returns c = (c.file_mappings-outcome.result.status, c.code.ensures, (c.file_mappings-outcome.result.frames_count, c.file_mappings-outcome.ensures))
