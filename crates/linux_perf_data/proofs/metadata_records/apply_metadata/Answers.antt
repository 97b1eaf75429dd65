use Rattle.std.proofs.Common.{◌∙◌, sym, inl, inr}
use Rattle.linux_perf_data.proofs.LateMetadataLemmas.{attribute_record_applied, feature_record_applied, mismatch_rejected}
use Rattle.linux_perf_data.proofs.metadata_records.apply_metadata.Goals as goal

pub returns-then-len-attribute_count-clause-applies : goal.returns-then-len-attribute_count-clause-applies
returns-then-len-attribute_count-clause-applies c =
    mismatch_rejected (Unit {0}) c.args.endian c.args.lookup.now c.args.perf_file.now c.args.record_type c.args.body.now c.mismatched_perf_file.result c.if-not-is_metadata.ensures c.mismatched_perf_file.ensures (λ same. c.if-len-attribute_count.true (c.len.ensures ∙ same ∙ sym c.attribute_count.ensures))

pub returns-then-record_type-eq-PERF_RECORD_HEADER_ATTR-clause-applies : goal.returns-then-record_type-eq-PERF_RECORD_HEADER_ATTR-clause-applies
returns-then-record_type-eq-PERF_RECORD_HEADER_ATTR-clause-applies c =
    attribute_record_applied c.args.endian c.args.lookup.now c.apply_attribute.new.lookup c.args.perf_file.now c.apply_attribute.new.perf_file c.args.record_type c.args.body.now c.apply_attribute.result c.if-record_type-eq-PERF_RECORD_HEADER_ATTR.true (sym c.len.ensures ∙ c.if-len-attribute_count.false ∙ c.attribute_count.ensures) c.apply_attribute.ensures

pub returns-clause-applies : goal.returns-clause-applies
returns-clause-applies c =
    feature_record_applied c.args.endian c.args.lookup.now c.args.perf_file.now c.apply_feature.new.perf_file c.args.record_type c.args.body.now c.apply_feature.result
    (elim c.if-not-is_metadata.ensures [ inl attribute ↦ absurd (c.if-record_type-eq-PERF_RECORD_HEADER_ATTR.false attribute) | inr feature ↦ feature ])
    (sym c.len.ensures ∙ c.if-len-attribute_count.false ∙ c.attribute_count.ensures) c.apply_feature.ensures
