use Rattle.std.proofs.Common.{ap, sym, ◌∙◌, ◌/◌, length}
use Rattle.perfdata_sources.specs.Raw.{bytes_of}
use Rattle.perfdata_sources.specs.Endian.{number_in}
use Rattle.perfdata_events.proofs.Elements.{u64s_length}
use Rattle.perfdata_events.proofs.fields.u64s.RawDataU64.len.Goals as goal

pub returns : goal.returns
returns c =
    let bytes = bytes_of c.args.self.now.bytes in
    ap (λ n. n / 8) c.len.ensures ∙ sym (u64s_length (number_in c.args.self.now.endian) (length bytes / 8) bytes)
