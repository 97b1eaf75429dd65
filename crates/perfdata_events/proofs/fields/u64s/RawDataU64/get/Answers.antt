use Rattle.std.proofs.Common.{◌/◌, length, ap, arith}
use Rattle.perfdata_sources.specs.Raw.{bytes_of}
use Rattle.perfdata_sources.specs.Endian.{number_in}
use Rattle.perfdata_events.proofs.Elements.{u64s_length, u64_of_slice}
use Rattle.perfdata_events.proofs.fields.u64s.RawDataU64.get.Goals as goal

pub returns-then-index-len-clause-none : goal.returns-then-index-len-clause-none
returns-then-index-len-clause-none c =
    let bytes = bytes_of c.args.self.now.bytes in
    let count = u64s_length (number_in c.args.self.now.endian) (length bytes / 8) bytes in
    let size = ap (λ n. n / 8) c.len.ensures in
    let no_more = c.if-index-len.true in
    omega (arith, count, size, no_more)

pub returns-in-Ok-clause-within : goal.returns-in-Ok-clause-within
returns-in-Ok-clause-within c =
    let bytes = bytes_of c.args.self.now.bytes in
    let count = u64s_length (number_in c.args.self.now.endian) (length bytes / 8) bytes in
    let size = ap (λ n. n / 8) c.len.ensures in
    let more = c.if-index-len.false in
    omega (arith, count, size, more)

pub returns-in-Ok-clause-number : goal.returns-in-Ok-clause-number
returns-in-Ok-clause-number c =
    let bytes = bytes_of c.args.self.now.bytes in
    let size = ap (λ n. n / 8) c.len.ensures in
    let more = c.if-index-len.false in
    u64_of_slice c.args.self.now.endian c.args.index bytes (bytes_of c.in_ok-bytes.bytes) _ c.in-Ok.number (omega (arith, size, more)) c.in_ok-bytes.ensures.bytes c.in-Ok.ensures.decodes
