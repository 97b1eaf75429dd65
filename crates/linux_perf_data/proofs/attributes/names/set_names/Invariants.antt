use Rattle.std.proofs.Common.{◌≡◌, length, take, drop, vec_len}
use Rattle.linux_perf_data.specs.Descriptions.{described_attributes}
use Rattle.linux_perf_data.specs.steps.Names.{names_in, name_bytes_of}
use Rattle.linux_perf_data.proofs.attributes.names.set_names.Given as goal

abbrev pub invariant-attributes : goal.invariant-attributes
invariant-attributes l = record {
  names : names_in (take l.index l.attributes) ≡ name_bytes_of (take l.index l.fn.names.items);
  remaining : drop l.index l.names.items ≡ drop l.index l.fn.names.items;
  long : vec_len l.names ≡ length l.attributes;
  same : described_attributes l.attributes ≡ described_attributes l.initial.attributes;
}
