use Rattle.std.proofs.Common.{◌≡◌, ◌<◌, length, vec_len}
use Rattle.std.specs.List.{All}
use Rattle.linux_perf_data.specs.Descriptions.{described_attributes}
use Rattle.linux_perf_data.specs.steps.Renames.{AreRenamesFor}
use Rattle.linux_perf_data.specs.declared.attributes.names.NameTable.{NameTable}
use Rattle.linux_perf_data.proofs.attributes.renames.apply_renames.Given as goal

abbrev pub invariant-renames : goal.invariant-renames
invariant-renames l = record {
  in_bounds : All (λ r. r.0 < length l.attributes) l.renames.items;
  same : described_attributes l.attributes ≡ described_attributes l.initial.attributes;
  names : (t : NameTable) → AreRenamesFor l.initial.attributes t l.fn.renames.items → AreRenamesFor l.attributes t l.renames.items;
}

abbrev pub decreases-renames : goal.decreases-renames
decreases-renames l = vec_len l.renames
