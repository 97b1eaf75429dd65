use Rattle.pprof.specs.Wire.{number_field}
use Rattle.pprof.proofs.Writing.{last, more}
use Rattle.pprof.proofs.encode.FunctionMessage.push.Goals as goal

pub returns : goal.returns
returns c = last (number_field 4 c.args.self.now.filename) c.push_number-4.new.bytes.items c.push_number-4.result (more (more c.in_ok-push_number.ensures.fields c.in_ok-push_number-2.ensures.fields) c.in_ok-push_number-3.ensures.fields) c.push_number-4.ensures.fields
