use Rattle.std.proofs.Common.{◌≡◌, ◌*◌, subst, arith}
use Rattle.perfdata_sources.specs.Raw.{bytes_of}
use Rattle.perfdata_sources.specs.Endian.{number_in}
use Rattle.perfdata_events.specs.Format.{Decodes}
use Rattle.perfdata_events.specs.Words.{u64s, u64s_in}
use Rattle.perfdata_events.proofs.fields.words.read_u64_list.Goals as goal

pub returns-clause-decodes : goal.returns-clause-decodes
returns-clause-decodes c =
    let one : 1 * c.args.count ≡ c.args.count = omega arith in
    subst (λ n. Decodes (u64s (number_in c.args.endian) n) u64s_in (bytes_of c.args.fields.now) c.read_u64s.result (bytes_of c.read_u64s.new.fields)) one c.read_u64s.ensures.decodes
