use Rattle.std.proofs.Common.{◌≡◌, ◌++◌, drop}
use Rattle.linux_perf_data.specs.Descriptions.{described_attributes}
use Rattle.linux_perf_data.specs.steps.IdPairs.{id_pairs_of}
use Rattle.linux_perf_data.proofs.attributes.id_table.collect_id_pairs.Given as goal

abbrev pub invariant-attributes : goal.invariant-attributes
invariant-attributes l = record {
  at : l.index ≡ l.attribute-index;
  are : l.pairs.items ++ id_pairs_of l.index (described_attributes (drop l.index l.attributes)) ≡ id_pairs_of 0 (described_attributes l.attributes);
}
