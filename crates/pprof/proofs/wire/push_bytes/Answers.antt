use Rattle.pprof.proofs.Writing.{written_bytes}
use Rattle.pprof.proofs.wire.push_bytes.Goals as goal

pub returns : goal.returns
returns c = written_bytes c.args.field c.args.contents.now c.args.bytes.now.items c.push_varint.new.bytes.items c.push_varint-2.new.bytes.items c.extend_from_slice.new.self.items c.in_ok-push_varint.ensures c.in_ok-push_varint-2.ensures c.in_ok-extend_from_slice.ensures.items
