use Rattle.std.proofs.Common.{◌≡◌, take, All}
use Rattle.linux_perf_data.specs.Attribute.{ConformsTo}
use Rattle.linux_perf_data.specs.Descriptions.{described_attribute, described_attributes}
use Rattle.linux_perf_data.proofs.attributes.consistency.check_each.Given as goal

abbrev pub invariant-attributes : goal.invariant-attributes
invariant-attributes l = record {
  offset : l.index ≡ l.attribute-index;
  all_bytes : All (ConformsTo (described_attribute l.first)) (described_attributes (take l.attribute-index l.attributes));
}
