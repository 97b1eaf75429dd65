use Rattle.std.proofs.Common.{◌≡◌, take}
use Rattle.linux_perf_data.specs.Descriptions.{described_attributes, parse_infos_of}
use Rattle.linux_perf_data.proofs.attributes.lookup.collect_parse_infos.Given as goal

abbrev pub invariant-attributes : goal.invariant-attributes
invariant-attributes l = l.parse_infos.items ≡ parse_infos_of l.endian (described_attributes (take l.attribute-index l.attributes))
