use Rattle.perfdata_simpleperf.proofs.protobuf.wire.+decode_varint.Given as goal

abbrev pub decreases-decode_varint : goal.decreases-decode_varint
decreases-decode_varint l = l.max_len
