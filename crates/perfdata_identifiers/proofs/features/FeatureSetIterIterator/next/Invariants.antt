use Rattle.std.proofs.Common.{◌≡◌, ◌-◌}
use Rattle.perfdata_identifiers.specs.Features.{features_from}
use Rattle.perfdata_identifiers.proofs.features.FeatureSetIterIterator.next.Given as goal

abbrev pub invariant-members : goal.invariant-members
invariant-members l = record {
  same : l.self.set ≡ l.initial.self.set;
  left : features_from l.self.set l.self.next ≡ features_from l.initial.self.set l.initial.self.next;
}

abbrev pub decreases-members : goal.decreases-members
decreases-members l = 256 - l.self.next
