use Rattle.std.proofs.Common.{◌≡◌, drop}
use Rattle.linux_perf_data.specs.Descriptions.{described_attributes}
use Rattle.linux_perf_data.specs.Consistency.{first_without_identifier}
use Rattle.linux_perf_data.proofs.attributes.consistency.first_without_identifier.Given as goal

abbrev pub invariant-attributes : goal.invariant-attributes
invariant-attributes l = record {
  at : l.index ≡ l.attribute-index;
  are : first_without_identifier l.index (described_attributes (drop l.index l.attributes)) ≡ first_without_identifier 0 (described_attributes l.attributes);
}
