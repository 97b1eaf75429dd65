use Rattle.std.proofs.Common.{arith, inr}
use Rattle.perfdata_sources.specs.Raw.{bytes_of}
use Rattle.perfdata_jit.proofs.JitHeaders.{header_declares, header_begins, header_missing}
use Rattle.perfdata_jit.proofs.header.JitDumpHeader.parse.Goals as goal

pub returns-then-header-clause-error : goal.returns-then-header-clause-error
returns-then-header-clause-error c =
    let consumed_bytes = c.in-Ok.ensures.rest in
    let declares = header_declares c.in-Some.endian (bytes_of c.args.bytes) c.read_exact.new.buf (bytes_of c.read_exact.new.self) consumed_bytes.enough c.in-Ok.ensures.read consumed_bytes.rest
    c.in-Some.ensures.some c.in-Ok-parse_after_magic.header c.in-Ok-parse_after_magic.ensures.value
    in (declares, omega (arith, c.if-header.true))

pub returns-else-header-clause-value : goal.returns-else-header-clause-value
returns-else-header-clause-value c =
    let consumed_bytes = c.in-Ok.ensures.rest in
    header_begins c.in-Some.endian (bytes_of c.args.bytes) c.read_exact.new.buf (bytes_of c.read_exact.new.self) consumed_bytes.enough c.in-Ok.ensures.read consumed_bytes.rest
    c.in-Some.ensures.some c.in-Ok-parse_after_magic.header c.in-Ok-parse_after_magic.ensures.value (omega (arith, c.if-header.false))

pub returns-in-Err-parse_after_magic-clause-error : goal.returns-in-Err-parse_after_magic-clause-error
returns-in-Err-parse_after_magic-clause-error c =
    let consumed_bytes = c.in-Ok.ensures.rest in
    inr (header_missing c.in-Some.endian (bytes_of c.args.bytes) c.read_exact.new.buf (bytes_of c.read_exact.new.self) consumed_bytes.enough c.in-Ok.ensures.read consumed_bytes.rest
    c.in-Some.ensures.some c.in-Err-parse_after_magic.field-0 c.in-Err-parse_after_magic.ensures.error)
