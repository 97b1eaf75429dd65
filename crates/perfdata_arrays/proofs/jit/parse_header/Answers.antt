use Rattle.std.proofs.Common.{subst}
use Rattle.perfdata_jit.specs.JitHeader.{BeginsWithJitHeader, IsJitHeaderError}
use Rattle.perfdata_arrays.specs.Jit.{header_window}
use Rattle.perfdata_arrays.proofs.JitLemmas.{header_endian}
use Rattle.perfdata_arrays.proofs.jit.parse_header.Goals as goal

pub returns-in-Ok : goal.returns-in-Ok
returns-in-Ok c = header_endian (header_window c.args.bytes.now) c.in-Ok.header c.endian-endian.result (subst (λ l. BeginsWithJitHeader l c.in-Ok.header) c.header_prefix.ensures c.in-Ok.ensures.value) c.endian-endian.ensures

pub returns-in-Err : goal.returns-in-Err
returns-in-Err c = (c.in-Err.error, c.status_of_jit_error.ensures, subst (λ l. IsJitHeaderError l c.in-Err.error) c.header_prefix.ensures c.in-Err.ensures.error)
