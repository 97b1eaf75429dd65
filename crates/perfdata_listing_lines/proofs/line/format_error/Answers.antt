use Rattle.std.proofs.Common.{arith}
use Rattle.std.proofs.lemmas.Fmt.{length-decimal-le}
use Rattle.std.proofs.lemmas.List.{drop_all}
use Rattle.perfdata_listing_lines.proofs.line.format_error.Goals as goal

pub write_digits-number_start-requires : goal.write_digits-number_start-requires
write_digits-number_start-requires c =
    let long = length-decimal-le 20 c.args.records (omega arith) (omega arith) (omega arith) in
    (omega arith, omega arith)

pub prepend_bytes-requires : goal.prepend_bytes-requires
prepend_bytes-requires c =
    let long = length-decimal-le 20 c.args.records (omega arith) (omega arith) (omega arith) in
    (omega arith, omega arith)

pub returns-clause-written : goal.returns-clause-written
returns-clause-written c = rw (
  c.prepend_bytes.ensures.written,
  c.write_digits-number_start.ensures.written,
  c.prepend_bytes-suffix_start.ensures.written,
  drop_all 128 c.args.buf.now (omega arith),
)
