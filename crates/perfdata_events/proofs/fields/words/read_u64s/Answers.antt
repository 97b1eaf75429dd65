use Rattle.perfdata_sources.specs.Raw.{bytes_of}
use Rattle.perfdata_events.proofs.Elements.{u64s_block, element_size}
use Rattle.perfdata_events.proofs.fields.words.read_u64s.Goals as goal

pub returns-clause-decodes : goal.returns-clause-decodes
returns-clause-decodes c = u64s_block c.args.endian _ _ (bytes_of c.args.fields.now) (bytes_of c.in_ok-bytes.bytes) _ (element_size c.args.count c.args.width) c.in_ok-bytes.ensures.decodes
