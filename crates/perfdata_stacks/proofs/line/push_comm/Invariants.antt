use Rattle.std.proofs.Common.{◌≡◌, ◌≤◌, ◌+◌, ◌++◌, take, map, vec_capacity, vec_len}
use Rattle.perfdata_stacks.specs.Line.{comm_byte}
use Rattle.perfdata_stacks.proofs.line.push_comm.Given as goal

abbrev pub invariant-bytes : goal.invariant-bytes
invariant-bytes l = record {
  items : l.line.items ≡ l.initial.line.items ++ map comm_byte (take l.byte-index l.comm);
  len : vec_len l.line ≡ vec_len l.initial.line + l.byte-index;
  capacity : vec_capacity l.initial.line ≤ vec_capacity l.line;
}
