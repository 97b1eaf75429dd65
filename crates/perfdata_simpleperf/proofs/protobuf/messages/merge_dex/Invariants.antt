use Rattle.std.proofs.Common.{◌≡◌, List, ℕ, length, ◌++◌}
use Rattle.perfdata_simpleperf.specs.Protobuf.Fields.{FieldValue}
use Rattle.perfdata_simpleperf.specs.Protobuf.Messages.{LeafFields}
use Rattle.perfdata_simpleperf.specs.Protobuf.Values.{AreOffsets, contents_of}
use Rattle.perfdata_simpleperf.specs.declared.protobuf.field.Message.TheVariants as messages
use Rattle.perfdata_simpleperf.proofs.protobuf.messages.merge_dex.Given as goal

abbrev pub invariant-fields : goal.invariant-fields
invariant-fields l = (ps : List FieldValue) × LeafFields messages.Dex l.bytes ps l.rest × (ns : List ℕ) × AreOffsets (contents_of 1 ps) ns × (l.offsets.items ≡ l.fn.offsets.items ++ ns)

abbrev pub decreases-fields : goal.decreases-fields
decreases-fields l = length l.rest
