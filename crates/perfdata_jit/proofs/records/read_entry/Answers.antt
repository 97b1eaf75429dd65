use Rattle.std.proofs.Common.{arith, sym, ◌∙◌}
use Rattle.perfdata_sources.specs.Endian.{number_in}
use Rattle.perfdata_sources.specs.Raw.{bytes_of}
use Rattle.perfdata_sources.proofs.Numbers.{in_reads_first}
use Rattle.perfdata_jit.proofs.Fields.{number_at, number_within}
use Rattle.perfdata_jit.proofs.records.read_entry.Goals as goal

pub returns-clause-value : goal.returns-clause-value
returns-clause-value c =
    let number = number_in c.args.endian in
    let first = in_reads_first c.args.endian in
    let xs = bytes_of c.args.bytes.now in
    let fixed = c.read_exact.new.buf in
    let is = c.in_ok-read_exact.ensures.read in
    let consumed_bytes = c.in_ok-read_exact.ensures.rest in
    let long = consumed_bytes.enough in
    let string = c.in-Some.ensures.string in
    record {
      address = c.read_u64.ensures ∙ number_at number first 8 0 16 xs fixed is long (omega arith);
      line_number = c.read_u32.ensures ∙ number_within number first 4 8 8 16 xs fixed is long (omega arith) (omega arith);
      column_number = c.read_u32-2.ensures ∙ number_within number first 4 12 4 16 xs fixed is long (omega arith) (omega arith);
      path_text = record { split = sym consumed_bytes.rest ∙ string.split; no_nul = string.no_nul };
    }
