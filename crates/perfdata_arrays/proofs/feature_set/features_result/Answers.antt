use Rattle.std.proofs.Common.{refl, subst}
use Rattle.perfdata_arrays.specs.FeatureSets.{AreBitsOf}
use Rattle.perfdata_arrays.proofs.feature_set.features_result.Goals as goal

pub returns-in-Ok : goal.returns-in-Ok
returns-in-Ok c = rw c.in-Ok.is (refl, subst (λ s. AreBitsOf s c.feature_bits.result) c.features.ensures c.feature_bits.ensures)
