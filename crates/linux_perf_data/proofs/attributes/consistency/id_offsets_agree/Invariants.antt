use Rattle.std.proofs.Common.{take}
use Rattle.linux_perf_data.specs.Descriptions.{described_attribute, described_attributes}
use Rattle.linux_perf_data.specs.steps.Consistency.{SameIdOffsets}
use Rattle.linux_perf_data.proofs.attributes.consistency.id_offsets_agree.Given as goal

abbrev pub invariant-attributes : goal.invariant-attributes
invariant-attributes l = SameIdOffsets (described_attribute l.first) (described_attributes (take l.attribute-index l.attributes))
