use Rattle.std.proofs.Common.{List, length}
use Rattle.perfdata_simpleperf.specs.Protobuf.Fields.{FieldValue}
use Rattle.perfdata_simpleperf.specs.Protobuf.Messages.{FileFields}
use Rattle.perfdata_simpleperf.specs.FileRecord.{record_value}
use Rattle.perfdata_simpleperf.specs.Protobuf.Values.{HasValue}
use Rattle.perfdata_simpleperf.proofs.protobuf.messages.decode_file_record.Given as goal

abbrev pub invariant-fields : goal.invariant-fields
invariant-fields l = (ps : List FieldValue) × FileFields l.bytes ps l.rest × HasValue ps (record_value l.file)

abbrev pub decreases-fields : goal.decreases-fields
decreases-fields l = length l.rest
