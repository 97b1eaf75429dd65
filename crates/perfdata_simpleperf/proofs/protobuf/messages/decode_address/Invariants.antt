use Rattle.std.proofs.Common.{◌≡◌, List, length}
use Rattle.perfdata_simpleperf.specs.Protobuf.Fields.{FieldValue}
use Rattle.perfdata_simpleperf.specs.Protobuf.Messages.{LeafFields}
use Rattle.perfdata_simpleperf.specs.Protobuf.Values.{last_or, numbers_of}
use Rattle.perfdata_simpleperf.specs.declared.protobuf.field.Message.TheVariants as messages
use Rattle.perfdata_simpleperf.proofs.protobuf.messages.decode_address.Given as goal

abbrev pub invariant-fields : goal.invariant-fields
invariant-fields l = (ps : List FieldValue) × LeafFields messages.Address l.bytes ps l.rest × (l.address ≡ last_or l.start (numbers_of 1 ps))

abbrev pub decreases-fields : goal.decreases-fields
decreases-fields l = length l.rest
