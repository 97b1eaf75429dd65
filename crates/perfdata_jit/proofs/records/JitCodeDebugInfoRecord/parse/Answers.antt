use Rattle.std.proofs.Common.{arith, ◌∙◌, subst, inr}
use Rattle.std.proofs.lemmas.Result.{err_from_is_err_and}
use Rattle.perfdata_sources.specs.Endian.{number_in}
use Rattle.perfdata_sources.specs.Raw.{bytes_of}
use Rattle.perfdata_sources.proofs.Numbers.{in_reads_first}
use Rattle.perfdata_jit.specs.JitRecords.{AreDebugEntries}
use Rattle.perfdata_jit.proofs.Entries.{entries_error_at}
use Rattle.perfdata_jit.proofs.Fields.{number_at, number_within}
use Rattle.perfdata_jit.proofs.records.JitCodeDebugInfoRecord.parse.Goals as goal

pub returns-clause-value : goal.returns-clause-value
returns-clause-value c =
    let number = number_in c.args.endian in
    let first = in_reads_first c.args.endian in
    let xs = bytes_of c.args.bytes in
    let fixed = c.read_exact.new.buf in
    let is = c.in_ok-read_exact.ensures.read in
    let consumed_bytes = c.in_ok-read_exact.ensures.rest in
    let read = c.in_ok-entries.ensures.value in
    let after_body = bytes_of c.read_entries.new.bytes in
    record {
      min_len = consumed_bytes.enough;
      address = c.read_u64-2.ensures ∙ number_at number first 8 0 16 xs fixed is consumed_bytes.enough (omega arith);
      count = read.exact_len ∙ c.read_u64.ensures ∙ number_within number first 8 8 8 16 xs fixed is consumed_bytes.enough (omega arith) (omega arith);
      after_body = after_body;
      elements = subst (λ l. AreDebugEntries number l c.in_ok-entries.entries.items after_body) consumed_bytes.rest read.elements;
    }

pub returns-in_err-entries-clause-error : goal.returns-in_err-entries-clause-error
returns-in_err-entries-clause-error c =
    let number = number_in c.args.endian in
    let xs = bytes_of c.args.bytes in
    let consumed_bytes = c.in_ok-read_exact.ensures.rest in
    let p = err_from_is_err_and c.from_residual-in_err-entries.result c.from_residual-in_err-entries.ensures.1 in
    let count = c.read_u64.ensures ∙ number_within number (in_reads_first c.args.endian) 8 8 8 16 xs c.read_exact.new.buf c.in_ok-read_exact.ensures.read consumed_bytes.enough (omega arith) (omega arith) in
    rw (p.1, p.2) (inr (consumed_bytes.enough, entries_error_at number _ _ _ _ c.in_err-entries.field-0.0 count consumed_bytes.rest c.in_err-entries.ensures.error))
