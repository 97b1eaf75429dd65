use Rattle.std.proofs.Common.{◌≢◌, Ok, Err, length, rules, subst}
use Rattle.std.proofs.lemmas.Result.{err_from_is_err_and}
use Rattle.linux_perf_data.specs.Attribute.{AreConsistent}
use Rattle.linux_perf_data.specs.AttributeSources.{ReadsAttributes}
use Rattle.linux_perf_data.specs.steps.Consistency.{ChecksConsistency}
use Rattle.linux_perf_data.specs.Descriptions.{described_attributes}
use Rattle.linux_perf_data.proofs.FileOpenings.{sources_both, sources_error, attributes_none, attributes_inconsistent, attributes_consistent}
use Rattle.linux_perf_data.proofs.file.opening.read_consistent_attributes.Goals as goal

pub returns-in_err-attributes-clause-reads : goal.returns-in_err-attributes-clause-reads
returns-in_err-attributes-clause-reads g c =
    let p = err_from_is_err_and c.from_residual.result c.from_residual.ensures.1 in
    let e = c.in_err-attributes.field-0.0 in
    let same = sources_both _ _ _ _ c.feature_bytes-event_desc.ensures c.feature_bytes-meta_info.ensures in
    let read = subst (λ s. ReadsAttributes c.args.endian c.args.header.now s (g.C.Source.state c.args.source.now) (Err e) (g.C.Source.state c.read_attributes.new.source)) same c.in_err-attributes.ensures.reads in
    rw (p.1, p.2) (sources_error c.args.endian c.args.header.now _ _ _ e read c.in_err-attributes.ensures.named_error)

pub returns-then-is_empty-clause-reads : goal.returns-then-is_empty-clause-reads
returns-then-is_empty-clause-reads g c =
    let v = c.in_ok-attributes.attributes in
    let same = sources_both _ _ _ _ c.feature_bytes-event_desc.ensures c.feature_bytes-meta_info.ensures in
    let read = subst (λ s. ReadsAttributes c.args.endian c.args.header.now s (g.C.Source.state c.args.source.now) (Ok v) (g.C.Source.state c.read_attributes.new.source)) same c.in_ok-attributes.ensures.reads in
    attributes_none c.args.endian c.args.header.now _ _ _ v read (search rules)

pub returns-in_err-check_consistency-clause-reads : goal.returns-in_err-check_consistency-clause-reads
returns-in_err-check_consistency-clause-reads g c =
    let p = err_from_is_err_and c.from_residual-in_err-check_consistency.result c.from_residual-in_err-check_consistency.ensures.1 in
    let v = c.in_ok-attributes.attributes in
    let e = c.in_err-check_consistency.field-0.0 in
    let same = sources_both _ _ _ _ c.feature_bytes-event_desc.ensures c.feature_bytes-meta_info.ensures in
    let read = subst (λ s. ReadsAttributes c.args.endian c.args.header.now s (g.C.Source.state c.args.source.now) (Ok v) (g.C.Source.state c.read_attributes.new.source)) same c.in_ok-attributes.ensures.reads in
    rw (p.1, p.2) (attributes_inconsistent c.args.endian c.args.header.now _ _ _ v e read
    (subst (λ l. ChecksConsistency {A = Unit {0}} (described_attributes l) (Err e)) c.deref.ensures.value c.in_err-check_consistency.ensures))

pub returns-clause-reads : goal.returns-clause-reads
returns-clause-reads g c =
    let v = c.in_ok-attributes.attributes in
    let same = sources_both _ _ _ _ c.feature_bytes-event_desc.ensures c.feature_bytes-meta_info.ensures in
    let read = subst (λ s. ReadsAttributes c.args.endian c.args.header.now s (g.C.Source.state c.args.source.now) (Ok v) (g.C.Source.state c.read_attributes.new.source)) same c.in_ok-attributes.ensures.reads in
    let some : length v.items ≢ 0 = search rules in
    attributes_consistent c.args.endian c.args.header.now _ _ _ v read some (subst (λ l. AreConsistent (described_attributes l)) c.deref.ensures.value c.in_ok-check_consistency.ensures)
