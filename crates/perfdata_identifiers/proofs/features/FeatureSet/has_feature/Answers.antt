use Rattle.std.proofs.Common.{◌/◌, ◌%◌, slice_index, sym, ◌∙◌, arith, rules}
use Rattle.perfdata_identifiers.proofs.Members.{bit_test, has_member, member_has}
use Rattle.perfdata_identifiers.proofs.features.FeatureSet.has_feature.Goals as goal

pub returns-then-feature-ge-MAX_BITS-clause-member : goal.returns-then-feature-ge-MAX_BITS-clause-member
returns-then-feature-ge-MAX_BITS-clause-member c = (
  λ false_is. absurd (search rules),
  λ member. let has = (member_has c.args.self.now c.args.feature.0 member).0 in absurd (omega arith),
)

pub returns-clause-bit : goal.returns-clause-bit
returns-clause-bit c =
    let test = bit_test (slice_index c.args.self.now.0 (c.args.feature.0 / 64)) (c.args.feature.0 % 64) (omega arith) in
    (λ set. (c.if-feature-ge-MAX_BITS.false, sym test ∙ set), λ has. test ∙ has.1)

pub returns-clause-member : goal.returns-clause-member
returns-clause-member c =
    let test = bit_test (slice_index c.args.self.now.0 (c.args.feature.0 / 64)) (c.args.feature.0 % 64) (omega arith) in (
      λ set. has_member c.args.self.now c.args.feature.0 (c.if-feature-ge-MAX_BITS.false, sym test ∙ set),
      λ member. test ∙ (member_has c.args.self.now c.args.feature.0 member).1,
    )
