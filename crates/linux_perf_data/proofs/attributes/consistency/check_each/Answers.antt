use Rattle.std.proofs.Common.{◌≡◌, ◌≢◌, ◌∙◌, true, false, ap, sym, subst, refl, arith}
use Rattle.perfdata_identifiers.specs.ParseInfo.{is_set}
use Rattle.linux_perf_data.specs.Attribute.{Attribute, ConformsTo, FirstNonconformingAt, missing_identifier, sample_id_all_differs, has_identifier, has_sample_id_all}
use Rattle.linux_perf_data.specs.Descriptions.{described_attribute, described_attributes}
use Rattle.linux_perf_data.proofs.ConsistencyChecks.{all_more, all_consumed, inconsistent_here}
use Rattle.linux_perf_data.proofs.attributes.consistency.check_each.Goals as goal

pub returns-then-not-has_identifier : goal.returns-then-not-has_identifier
returns-then-not-has_identifier c =
    let first = described_attribute c.args.first.now in
    let d = c.attribute-item.result in
    let at = c.attributes.invariant.offset in
    let Cause = λ (a : Attribute). has_identifier a ≡ false in
    let is_missing : has_identifier (described_attribute d) ≡ false = sym (ap (λ a. is_set a.sample_format.0 16) c.attributes-attr.ensures) ∙ sym c.has_identifier.ensures ∙ c.if-not-has_identifier.true in
    let breaks = inconsistent_here first c.args.attributes.now c.attributes.attribute-index d Cause c.attributes-test.true c.attribute-item.is c.attributes.invariant.all_bytes is_missing in
    (missing_identifier c.attributes.index, subst (λ i. FirstNonconformingAt first (described_attributes c.args.attributes.now) i Cause) (sym at) breaks, refl)

pub returns-then-not-sample_id_all_agrees : goal.returns-then-not-sample_id_all_agrees
returns-then-not-sample_id_all_agrees c =
    let first = described_attribute c.args.first.now in
    let d = c.attribute-item.result in
    let at = c.attributes.invariant.offset in
    let Cause = λ (a : Attribute). (has_identifier a ≡ true) × (has_sample_id_all a ≢ has_sample_id_all first) in
    let has : has_identifier (described_attribute d) ≡ true = sym (ap (λ a. is_set a.sample_format.0 16) c.attributes-attr.ensures) ∙ sym c.has_identifier.ensures ∙ c.if-not-has_identifier.false in
    let own = ap (λ a. is_set a.flags.0 18) c.attributes-attr.ensures in
    let firsts = ap (λ a. is_set a.flags.0 18) c.attributes-in-attributes.ensures in
    let apart : has_sample_id_all (described_attribute d) ≢ has_sample_id_all first = λ same. c.if-not-sample_id_all_agrees.ensures (own ∙ same ∙ sym firsts) in
    let breaks = inconsistent_here first c.args.attributes.now c.attributes.attribute-index d Cause c.attributes-test.true c.attribute-item.is c.attributes.invariant.all_bytes (has, apart) in
    (sample_id_all_differs c.attributes.index, subst (λ i. FirstNonconformingAt first (described_attributes c.args.attributes.now) i Cause) (sym at) breaks, refl)

pub attributes-preserved : goal.attributes-preserved
attributes-preserved c =
    let first = described_attribute c.args.first.now in
    let d = c.attribute-item.result in
    let at = c.attributes.invariant.offset in
    let has : has_identifier (described_attribute d) ≡ true = sym (ap (λ a. is_set a.sample_format.0 16) c.attributes-attr.ensures) ∙ sym c.has_identifier.ensures ∙ c.if-not-has_identifier.false in
    let own = ap (λ a. is_set a.flags.0 18) c.attributes-attr.ensures in
    let firsts = ap (λ a. is_set a.flags.0 18) c.attributes-in-attributes.ensures in
    let same : has_sample_id_all (described_attribute d) ≡ has_sample_id_all first = sym own ∙ c.if-not-sample_id_all_agrees.ensures ∙ firsts in
    record {
      offset = omega arith;
      all_bytes = all_more (ConformsTo first) c.args.attributes.now c.attributes.attribute-index d c.attributes-test.true c.attribute-item.is (has, same) c.attributes.invariant.all_bytes;
    }

pub returns : goal.returns
returns c = all_consumed (ConformsTo (described_attribute c.args.first.now)) c.args.attributes.now c.attributes.attribute-index c.attributes-test.false c.attributes.invariant.all_bytes
