use Rattle.std.proofs.Common.{arith, ◌∙◌}
use Rattle.perfdata_sources.specs.Endian.{number_in}
use Rattle.perfdata_sources.specs.Raw.{bytes_of}
use Rattle.perfdata_sources.proofs.Numbers.{in_reads_first}
use Rattle.perfdata_jit.proofs.Fields.{number_at, number_within}
use Rattle.perfdata_jit.proofs.records.JitCodeMoveRecord.parse.Goals as goal

pub returns-clause-value : goal.returns-clause-value
returns-clause-value c =
    let number = number_in c.args.endian in
    let first = in_reads_first c.args.endian in
    let xs = bytes_of c.args.bytes in
    let fixed = c.read_exact.new.buf in
    let is = c.in_ok-read_exact.ensures.read in
    let long = c.in_ok-read_exact.ensures.rest.enough in
    let process = c.read_u32.ensures ∙ number_at number first 4 0 48 xs fixed is long (omega arith) in
    let thread = c.read_u32-2.ensures ∙ number_within number first 4 4 44 48 xs fixed is long (omega arith) (omega arith) in
    let mapping = c.read_u64.ensures ∙ number_within number first 8 8 40 48 xs fixed is long (omega arith) (omega arith) in
    let old = c.read_u64-2.ensures ∙ number_within number first 8 16 32 48 xs fixed is long (omega arith) (omega arith) in
    let new = c.read_u64-3.ensures ∙ number_within number first 8 24 24 48 xs fixed is long (omega arith) (omega arith) in
    let size = c.read_u64-4.ensures ∙ number_within number first 8 32 16 48 xs fixed is long (omega arith) (omega arith) in
    let index = c.read_u64-5.ensures ∙ number_within number first 8 40 8 48 xs fixed is long (omega arith) (omega arith) in
    λ i. record { pid = process i; tid = thread i; vma = mapping i; old_code_addr = old i; new_code_addr = new i; code_size = size i; code_index = index i }
