use Rattle.std.proofs.Common.{◌≡◌, ◌++◌}
use Rattle.std.specs.BTreeMap.{IsOrdered}
use Rattle.std.specs.Ordering.{nat_cmp}
use Rattle.perfdata_sections.proofs.feature_sections.pmu_mappings.into_index_map.Given as goal

abbrev pub invariant-names : goal.invariant-names
invariant-names l = record { names : l.ordered.entries ++ l.number-iterator ≡ l.fn.names.entries; up : IsOrdered nat_cmp l.fn.names }
