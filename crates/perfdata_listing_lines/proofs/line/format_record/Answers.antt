use Rattle.std.proofs.Common.{arith}
use Rattle.std.proofs.lemmas.Fmt.{length-decimal-le}
use Rattle.std.proofs.lemmas.List.{drop_all}
use Rattle.perfdata_listing_lines.proofs.line.format_record.Goals as goal

pub prepend_number-body_length_start-requires : goal.prepend_number-body_length_start-requires
prepend_number-body_length_start-requires c =
    let body_length = length-decimal-le 20 c.args.fields.body_length (omega arith) (omega arith) (omega arith) in
    (omega arith, omega arith)

pub prepend_number-misc_start-requires : goal.prepend_number-misc_start-requires
prepend_number-misc_start-requires c =
    let misc = length-decimal-le 5 c.args.fields.misc (omega arith) (omega arith) (omega arith) in
    (omega arith, omega arith)

pub prepend_number-type_start-requires : goal.prepend_number-type_start-requires
prepend_number-type_start-requires c =
    let misc = length-decimal-le 5 c.args.fields.misc (omega arith) (omega arith) (omega arith) in
    let type_length = length-decimal-le 10 c.args.fields.record_type (omega arith) (omega arith) (omega arith) in
    (omega arith, omega arith)

pub prepend_optional-attr_start-requires : goal.prepend_optional-attr_start-requires
prepend_optional-attr_start-requires c =
    let misc = length-decimal-le 5 c.args.fields.misc (omega arith) (omega arith) (omega arith) in
    let type_length = length-decimal-le 10 c.args.fields.record_type (omega arith) (omega arith) (omega arith) in
    (omega arith, omega arith)

pub prepend_optional-timestamp_start-requires : goal.prepend_optional-timestamp_start-requires
prepend_optional-timestamp_start-requires c =
    let misc = length-decimal-le 5 c.args.fields.misc (omega arith) (omega arith) (omega arith) in
    let type_length = length-decimal-le 10 c.args.fields.record_type (omega arith) (omega arith) (omega arith) in
    (omega arith, omega arith)

pub prepend_number-round_start-requires : goal.prepend_number-round_start-requires
prepend_number-round_start-requires c =
    let misc = length-decimal-le 5 c.args.fields.misc (omega arith) (omega arith) (omega arith) in
    let type_length = length-decimal-le 10 c.args.fields.record_type (omega arith) (omega arith) (omega arith) in
    let round = length-decimal-le 20 c.args.fields.round (omega arith) (omega arith) (omega arith) in
    (omega arith, omega arith)

pub prepend_number-requires : goal.prepend_number-requires
prepend_number-requires c =
    let misc = length-decimal-le 5 c.args.fields.misc (omega arith) (omega arith) (omega arith) in
    let type_length = length-decimal-le 10 c.args.fields.record_type (omega arith) (omega arith) (omega arith) in
    let offset = length-decimal-le 20 c.args.fields.offset (omega arith) (omega arith) (omega arith) in
    (omega arith, omega arith)

pub returns-clause-written : goal.returns-clause-written
returns-clause-written c = rw (
  c.prepend_number.ensures.written,
  c.prepend_number-round_start.ensures.written,
  c.prepend_optional-timestamp_start.ensures.written,
  c.prepend_optional-attr_start.ensures.written,
  c.prepend_number-type_start.ensures.written,
  c.prepend_number-misc_start.ensures.written,
  c.prepend_number-body_length_start.ensures.written,
  drop_all 128 c.args.buf.now (omega arith),
)
