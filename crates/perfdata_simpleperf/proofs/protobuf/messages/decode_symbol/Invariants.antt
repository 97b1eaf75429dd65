use Rattle.std.proofs.Common.{◌≡◌, List, length}
use Rattle.perfdata_simpleperf.specs.Protobuf.Fields.{FieldValue}
use Rattle.perfdata_simpleperf.specs.Protobuf.Messages.{LeafFields}
use Rattle.perfdata_simpleperf.specs.FileRecord.{symbol_value}
use Rattle.perfdata_simpleperf.specs.Protobuf.Values.{symbol_from, no_symbol}
use Rattle.perfdata_simpleperf.specs.declared.protobuf.field.Message.TheVariants as messages
use Rattle.perfdata_simpleperf.proofs.protobuf.messages.decode_symbol.Given as goal

abbrev pub invariant-fields : goal.invariant-fields
invariant-fields l = (ps : List FieldValue) × LeafFields messages.Symbol l.bytes ps l.rest × (symbol_value l.symbol ≡ symbol_from no_symbol ps)

abbrev pub decreases-fields : goal.decreases-fields
decreases-fields l = length l.rest
