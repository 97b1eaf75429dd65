use Rattle.std.proofs.Common.{◌+◌, ◌<◌, length, refl, sym, ap, ◌∙◌, arith}
use Rattle.std.proofs.lemmas.Bool.{false≢true, false_from_ne_true}
use Rattle.perfdata_identifiers.specs.Features.{has_bit, features_from}
use Rattle.perfdata_identifiers.proofs.Members.{features_more, features_skip, features_end}
use Rattle.perfdata_identifiers.proofs.features.FeatureSetIterIterator.next.Goals as goal

pub returns-then-has_feature-clause-steps : goal.returns-then-has_feature-clause-steps
returns-then-has_feature-clause-steps c =
    sym c.members.invariant.left ∙ features_more c.members.self.set c.members.self.next c.members-test.true (c.if-has_feature.ensures.bit.0 refl).1

pub returns-then-has_feature-clause-goes : goal.returns-then-has_feature-clause-goes
returns-then-has_feature-clause-goes c =
    let steps = sym c.members.invariant.left ∙ features_more c.members.self.set c.members.self.next c.members-test.true (c.if-has_feature.ensures.bit.0 refl).1 in
    let fewer : length (features_from c.members.self.set (c.members.self.next + 1)) < length (features_from c.args.self.now.set c.args.self.now.next) = omega (arith, ap length steps) in
    record { on = λ _. (tt, tt, fewer); keeps = tt; rests = λ _. tt }

pub members-preserved : goal.members-preserved
members-preserved c =
    let unset = false_from_ne_true (has_bit c.members.self.set c.members.self.next) (λ set. false≢true (c.if-has_feature.ensures.bit.1 (c.members-test.true, set))) in record {
      same = c.members.invariant.same;
      left = sym (features_skip c.members.self.set c.members.self.next c.members-test.true unset) ∙ c.members.invariant.left;
    }

pub returns-clause-steps : goal.returns-clause-steps
returns-clause-steps c =
    let none = features_end c.members.self.set c.members.self.next c.members-test.false in
    (sym c.members.invariant.left ∙ none, none)
