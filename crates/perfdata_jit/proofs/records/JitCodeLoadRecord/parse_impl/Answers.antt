use Rattle.std.proofs.Common.{subst}
use Rattle.std.specs.Prelude.{IfErr, IfOk}
use Rattle.perfdata_sources.specs.Raw.{bytes_of}
use Rattle.perfdata_sources.proofs.Numbers.{same_number}
use Rattle.perfdata_jit.specs.JitRecords.{IsLoad, IsLoadError}
use Rattle.perfdata_jit.proofs.records.JitCodeLoadRecord.parse_impl.Goals as goal

pub returns-clause-value : goal.returns-clause-value
returns-clause-value g c = subst (λ number. IfOk c.parse.result (λ load. IsLoad number (bytes_of c.args.bytes) load)) (same_number g.O.ByteOrder.number_of c.ENDIAN.result _ c.ENDIAN.ensures g.met.O.FileOrder.reads_by) c.parse.ensures.value

pub returns-clause-error : goal.returns-clause-error
returns-clause-error g c = subst (λ number. IfErr c.parse.result (λ error. IsLoadError number (bytes_of c.args.bytes) error)) (same_number g.O.ByteOrder.number_of c.ENDIAN.result _ c.ENDIAN.ensures g.met.O.FileOrder.reads_by) c.parse.ensures.error
