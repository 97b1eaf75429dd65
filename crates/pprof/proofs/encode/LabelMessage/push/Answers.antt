use Rattle.pprof.specs.Wire.{number_field}
use Rattle.pprof.proofs.Writing.{last, more}
use Rattle.pprof.proofs.encode.LabelMessage.push.Goals as goal

pub returns : goal.returns
returns c = last (number_field 3 c.args.self.now.number) c.push_number-3.new.bytes.items c.push_number-3.result (more c.in_ok-push_number.ensures.fields c.in_ok-push_number-2.ensures.fields) c.push_number-3.ensures.fields
