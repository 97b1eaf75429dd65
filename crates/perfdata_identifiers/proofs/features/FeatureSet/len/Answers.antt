use Rattle.std.proofs.Common.{arith, ap, inl}
use Rattle.std.specs.Prelude.{length}
use Rattle.perfdata_identifiers.proofs.Members.{features_too_few}
use Rattle.perfdata_identifiers.proofs.features.FeatureSet.len.Goals as goal

pub count-requires-clause-fits : goal.count-requires-clause-fits
count-requires-clause-fits c = inl (omega (arith, ap length c.iter.ensures, features_too_few c.args.self.now 0))
