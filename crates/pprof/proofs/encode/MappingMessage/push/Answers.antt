use Rattle.std.specs.Int.{from_bool}
use Rattle.pprof.specs.Wire.{number_field}
use Rattle.pprof.proofs.Writing.{last, more}
use Rattle.pprof.proofs.encode.MappingMessage.push.Goals as goal

pub returns : goal.returns
returns c =
    let texts = more (more (more (more (more c.in_ok-push_number.ensures.fields c.in_ok-push_number-2.ensures.fields) c.in_ok-push_number-3.ensures.fields) c.in_ok-push_number-4.ensures.fields) c.in_ok-push_number-5.ensures.fields) c.in_ok-push_number-6.ensures.fields in
    let flags = more (more (more texts (rw c.from.ensures at c.in_ok-push_number-7.ensures.fields)) (rw c.from-2.ensures at c.in_ok-push_number-8.ensures.fields)) (rw c.from-3.ensures at c.in_ok-push_number-9.ensures.fields) in
    last (number_field 10 (from_bool c.args.self.now.has_inline_frames)) c.push_number-10.new.bytes.items c.push_number-10.result flags (rw c.from-4.ensures at c.push_number-10.ensures.fields)
