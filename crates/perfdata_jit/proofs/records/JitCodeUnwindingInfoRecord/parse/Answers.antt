use Rattle.std.proofs.Common.{arith, inl, inr, ◌++◌, length, length-drop, sym, ap, ◌∙◌, append_assoc, length-append}
use Rattle.std.proofs.lemmas.Result.{err_from_is_err_and}
use Rattle.perfdata_sources.specs.Endian.{number_in}
use Rattle.perfdata_sources.specs.Raw.{bytes_of}
use Rattle.perfdata_sources.proofs.Numbers.{in_reads_first}
use Rattle.perfdata_jit.proofs.Fields.{number_at, number_within, truncated_again, truncated_long}
use Rattle.perfdata_jit.proofs.records.JitCodeUnwindingInfoRecord.parse.Goals as goal

pub returns-in_err-unwinding-clause-error : goal.returns-in_err-unwinding-clause-error
returns-in_err-unwinding-clause-error c =
    let p = err_from_is_err_and c.from_residual-in_err-unwinding.result c.from_residual-in_err-unwinding.ensures.1 in
    let xs = bytes_of c.args.bytes in
    let consumed_bytes = c.in_ok-read_exact.ensures.rest in
    let size = c.read_u64.ensures ∙ number_at (number_in c.args.endian) (in_reads_first c.args.endian) 8 0 24 xs c.read_exact.new.buf c.in_ok-read_exact.ensures.read consumed_bytes.enough (omega arith) in
    let short = c.in_err-unwinding.ensures.too_short in
    let fewer = short.too_few in
    let enough = consumed_bytes.enough in
    rw (p.1, p.2) (record { cause = inr (enough, inl (omega (arith, enough, size, fewer, ap length consumed_bytes.rest, length-drop 24 xs))); kind = short.kind })

pub returns-in_err-eh_frame_hdr-clause-error : goal.returns-in_err-eh_frame_hdr-clause-error
returns-in_err-eh_frame_hdr-clause-error c =
    let p = err_from_is_err_and c.from_residual-in_err-eh_frame_hdr.result c.from_residual-in_err-eh_frame_hdr.ensures.1 in
    let number = number_in c.args.endian in
    let first = in_reads_first c.args.endian in
    let xs = bytes_of c.args.bytes in
    let fixed = c.read_exact.new.buf in
    let is = c.in_ok-read_exact.ensures.read in
    let enough = c.in_ok-read_exact.ensures.rest.enough in
    let size = c.read_u64.ensures ∙ number_at number first 8 0 24 xs fixed is enough (omega arith) in
    let index_size = c.read_u64-2.ensures ∙ number_within number first 8 8 16 24 xs fixed is enough (omega arith) (omega arith) in
    let outer = c.in_ok-unwinding.ensures in
    let data_size = truncated_long c.read_u64.result (bytes_of c.read_exact.new.self) (bytes_of c.in_ok-unwinding.unwinding) outer.rest.enough outer.prefix in
    let short = c.in_err-eh_frame_hdr.ensures.too_short in
    let fewer = short.too_few in
    rw (p.1, p.2) (record { cause = inr (enough, inr (omega (arith, size, index_size, data_size, fewer))); kind = short.kind })

pub returns-clause-value : goal.returns-clause-value
returns-clause-value c =
    let number = number_in c.args.endian in
    let first = in_reads_first c.args.endian in
    let xs = bytes_of c.args.bytes in
    let fixed = c.read_exact.new.buf in
    let is = c.in_ok-read_exact.ensures.read in
    let consumed_bytes = c.in_ok-read_exact.ensures.rest in
    let long = consumed_bytes.enough in
    let outer = c.in_ok-unwinding.ensures in
    let inner = c.in_ok-eh_frame_hdr.ensures in
    let data_bytes = bytes_of c.in_ok-unwinding.unwinding in
    let index = bytes_of c.in_ok-eh_frame_hdr.eh_frame_hdr in
    let frame = bytes_of c.split_off_prefix-2.new.self in
    let after_body = bytes_of c.split_off_prefix.new.self in
    let size = c.read_u64.ensures ∙ number_at number first 8 0 24 xs fixed is long (omega arith) in
    let index_size = c.read_u64-2.ensures ∙ number_within number first 8 8 16 24 xs fixed is long (omega arith) (omega arith) in
    let parts = truncated_again c.read_u64-2.result data_bytes index frame inner.prefix inner.rest.rest in
    let all = truncated_again c.read_u64.result (bytes_of c.read_exact.new.self) data_bytes after_body outer.prefix outer.rest.rest in
    record {
      min_len = long;
      mapped = c.read_u64-3.ensures ∙ number_within number first 8 16 8 24 xs fixed is long (omega arith) (omega arith);
      index = truncated_long c.read_u64-2.result data_bytes index inner.rest.enough inner.prefix ∙ index_size;
      whole = sym (length-append index frame) ∙ ap length (sym parts) ∙ truncated_long c.read_u64.result (bytes_of c.read_exact.new.self) data_bytes outer.rest.enough outer.prefix ∙ size;
      after_body = after_body;
      split = sym consumed_bytes.rest ∙ all ∙ ap (λ l. l ++ after_body) parts ∙ append_assoc index frame after_body;
    }
