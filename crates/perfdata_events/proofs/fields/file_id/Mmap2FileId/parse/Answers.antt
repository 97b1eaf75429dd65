use Rattle.std.proofs.Common.{ap, ◌∙◌, length}
use Rattle.std.proofs.lemmas.List.{length-take-le}
use Rattle.perfdata_events.proofs.fields.file_id.Mmap2FileId.parse.Goals as goal

pub read_build_id-requires : goal.read_build_id-requires
read_build_id-requires c = ap length c.in_ok-id.ensures.prefix ∙ length-take-le 24 _ c.in_ok-id.ensures.rest.enough
