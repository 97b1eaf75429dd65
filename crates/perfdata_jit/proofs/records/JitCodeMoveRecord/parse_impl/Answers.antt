use Rattle.std.proofs.Common.{◌≡◌, subst}
use Rattle.std.specs.Prelude.{IfOk}
use Rattle.perfdata_sources.specs.Raw.{bytes_of}
use Rattle.perfdata_sources.proofs.Numbers.{same_number}
use Rattle.perfdata_jit.specs.JitRecords.{move_of}
use Rattle.perfdata_jit.proofs.records.JitCodeMoveRecord.parse_impl.Goals as goal

pub returns-clause-value : goal.returns-clause-value
returns-clause-value g c = subst (λ number. IfOk c.parse.result (λ moved. moved ≡ move_of number (bytes_of c.args.bytes))) (same_number g.O.ByteOrder.number_of c.ENDIAN.result _ c.ENDIAN.ensures g.met.O.FileOrder.reads_by) c.parse.ensures.value
