use Rattle.perfdata_sources.specs.Raw.{bytes_of}
use Rattle.perfdata_events.proofs.Elements.{split_first}
use Rattle.perfdata_events.proofs.fields.words.split_first_u64.Goals as goal

pub returns-clause-some : goal.returns-clause-some
returns-clause-some c = split_first c.args.values.endian (bytes_of c.args.values.bytes) (bytes_of c.read_u64.new.fields) c.in-Ok.value c.in-Ok.ensures.decodes
