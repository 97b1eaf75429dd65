use Rattle.std.proofs.Common.{subst}
use Rattle.std.specs.Prelude.{IfErr, IfOk}
use Rattle.perfdata_sources.specs.Raw.{bytes_of}
use Rattle.perfdata_sources.proofs.Numbers.{same_number}
use Rattle.perfdata_jit.specs.JitHeader.{IsHeaderAfterMagic, IsTruncatedAfterMagic}
use Rattle.perfdata_jit.proofs.header.JitDumpHeader.parse_after_magic.Goals as goal

pub returns-clause-value : goal.returns-clause-value
returns-clause-value g c = subst (λ number. IfOk c.parse_after_magic.result (λ header. IsHeaderAfterMagic number c.args.magic (bytes_of c.args.bytes) header)) (same_number g.O.ByteOrder.number_of c.ENDIAN.result _ c.ENDIAN.ensures g.met.O.FileOrder.reads_by) c.parse_after_magic.ensures.value

pub returns-clause-error : goal.returns-clause-error
returns-clause-error g c = subst (λ number. IfErr c.parse_after_magic.result (λ error. IsTruncatedAfterMagic number (bytes_of c.args.bytes) error)) (same_number g.O.ByteOrder.number_of c.ENDIAN.result _ c.ENDIAN.ensures g.met.O.FileOrder.reads_by) c.parse_after_magic.ensures.error
