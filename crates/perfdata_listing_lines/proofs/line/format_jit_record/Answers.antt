use Rattle.std.proofs.Common.{arith}
use Rattle.std.proofs.lemmas.Fmt.{length-decimal-le}
use Rattle.std.proofs.lemmas.List.{drop_all}
use Rattle.perfdata_listing_lines.proofs.line.format_jit_record.Goals as goal

pub prepend_number-size_start-requires : goal.prepend_number-size_start-requires
prepend_number-size_start-requires c =
    let size = length-decimal-le 20 c.args.size (omega arith) (omega arith) (omega arith) in
    (omega arith, omega arith)

pub prepend_number-type_start-requires : goal.prepend_number-type_start-requires
prepend_number-type_start-requires c =
    let type_length = length-decimal-le 20 c.args.record_type (omega arith) (omega arith) (omega arith) in
    (omega arith, omega arith)

pub prepend_number-timestamp_start-requires : goal.prepend_number-timestamp_start-requires
prepend_number-timestamp_start-requires c =
    let time = length-decimal-le 20 c.args.time (omega arith) (omega arith) (omega arith) in
    (omega arith, omega arith)

pub prepend_number-requires : goal.prepend_number-requires
prepend_number-requires c =
    let offset = length-decimal-le 20 c.args.offset (omega arith) (omega arith) (omega arith) in
    (omega arith, omega arith)

pub returns-clause-written : goal.returns-clause-written
returns-clause-written c = rw (
  c.prepend_number.ensures.written,
  c.prepend_number-timestamp_start.ensures.written,
  c.prepend_number-type_start.ensures.written,
  c.prepend_number-size_start.ensures.written,
  drop_all 128 c.args.buf.now (omega arith),
)
