use Rattle.std.proofs.Common.{arith, ◌++◌, ◌∷◌, sym, ap, ◌∙◌, inr}
use Rattle.std.proofs.lemmas.Result.{err_from_is_err_and}
use Rattle.perfdata_sources.specs.Endian.{number_in}
use Rattle.perfdata_sources.specs.Raw.{bytes_of}
use Rattle.perfdata_sources.proofs.Numbers.{in_reads_first}
use Rattle.perfdata_jit.proofs.Fields.{number_at, number_within, truncated_again, truncated_long}
use Rattle.perfdata_jit.proofs.records.JitCodeLoadRecord.parse.Goals as goal

pub returns-in_err-code_bytes-clause-error : goal.returns-in_err-code_bytes-clause-error
returns-in_err-code_bytes-clause-error c =
    let p = err_from_is_err_and c.from_residual-in_err-code_bytes.result c.from_residual-in_err-code_bytes.ensures.1 in
    let number = number_in c.args.endian in
    let first = in_reads_first c.args.endian in
    let xs = bytes_of c.args.bytes in
    let consumed_bytes = c.in_ok-read_exact.ensures.rest in
    let string = c.in-Some.ensures.string in
    let short = c.in_err-code_bytes.ensures.too_short in
    let fewer = short.too_few in
    let size = c.read_u64-code_size.ensures ∙ number_within number first 8 24 16 40 xs c.read_exact.new.buf c.in_ok-read_exact.ensures.read consumed_bytes.enough (omega arith) (omega arith) in
    rw (p.1, p.2) (record {
      cause = inr (inr (
        consumed_bytes.enough,
        record {
          name = bytes_of c.in-Some.name;
          after_body = bytes_of c.read_string.new.self;
          name_text = record { split = sym consumed_bytes.rest ∙ string.split; no_nul = string.no_nul };
          too_few = omega (arith, size, fewer);
        },
      ));
      kind = short.kind;
    })

pub returns-clause-value : goal.returns-clause-value
returns-clause-value c =
    let number = number_in c.args.endian in
    let first = in_reads_first c.args.endian in
    let xs = bytes_of c.args.bytes in
    let fixed = c.read_exact.new.buf in
    let is = c.in_ok-read_exact.ensures.read in
    let consumed_bytes = c.in_ok-read_exact.ensures.rest in
    let long = consumed_bytes.enough in
    let string = c.in-Some.ensures.string in
    let split = c.in_ok-code_bytes.ensures in
    let code = bytes_of c.in_ok-code_bytes.code_bytes in
    let after_body = bytes_of c.split_off_prefix.new.self in
    let size = c.read_u64-code_size.ensures ∙ number_within number first 8 24 16 40 xs fixed is long (omega arith) (omega arith) in
    record {
      process = c.read_u32.ensures ∙ number_at number first 4 0 40 xs fixed is long (omega arith);
      thread = c.read_u32-2.ensures ∙ number_within number first 4 4 36 40 xs fixed is long (omega arith) (omega arith);
      mapping = c.read_u64.ensures ∙ number_within number first 8 8 32 40 xs fixed is long (omega arith) (omega arith);
      address = c.read_u64-2.ensures ∙ number_within number first 8 16 24 40 xs fixed is long (omega arith) (omega arith);
      index = c.read_u64-3.ensures ∙ number_within number first 8 32 8 40 xs fixed is long (omega arith) (omega arith);
      size = truncated_long c.read_u64-code_size.result (bytes_of c.read_string.new.self) code split.rest.enough split.prefix ∙ size;
      after_body = after_body;
      name_text = record {
        split = sym consumed_bytes.rest ∙ string.split ∙ ap (λ l. bytes_of c.in-Some.name ++ (0 ∷ l)) (truncated_again c.read_u64-code_size.result (bytes_of c.read_string.new.self) code after_body split.prefix split.rest.rest);
        no_nul = string.no_nul;
      };
    }
