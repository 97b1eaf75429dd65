use Rattle.pprof.proofs.Writing.{absent_number, last_number}
use Rattle.pprof.proofs.wire.push_number.Goals as goal

pub returns-then-number-eq0-clause-fields : goal.returns-then-number-eq0-clause-fields
returns-then-number-eq0-clause-fields c = absent_number c.args.field c.args.number c.args.bytes.now.items c.if-number-eq0.true

pub returns-clause-fields : goal.returns-clause-fields
returns-clause-fields c = last_number c.push_varint-2.result c.args.field c.args.number c.args.bytes.now.items c.push_varint.new.bytes.items c.push_varint-2.new.bytes.items c.if-number-eq0.false c.in_ok-push_varint.ensures c.push_varint-2.ensures
