use Rattle.pprof.specs.Wire.{number_field}
use Rattle.pprof.proofs.Writing.{last}
use Rattle.pprof.proofs.encode.ValueTypeMessage.push.Goals as goal

pub returns : goal.returns
returns c = last (number_field 2 c.args.self.now.unit) c.push_number-2.new.bytes.items c.push_number-2.result c.in_ok-push_number.ensures.fields c.push_number-2.ensures.fields
