use Rattle.std.proofs.Common.{subst}
use Rattle.std.specs.Prelude.{Ok, Err}
use Rattle.std.proofs.lemmas.Result.{err_from_is_err_and}
use Rattle.linux_perf_data.specs.steps.FeatureData.{ReadsFeatureData, feature_entries_of}
use Rattle.linux_perf_data.specs.steps.UnfinishedFile.{ContainsFeatures}
use Rattle.linux_perf_data.proofs.UnfinishedSections.{sections_there, data_error}
use Rattle.linux_perf_data.proofs.file.unfinished.read_whole_sections.Goals as goal

pub returns-in_err-table-clause-reads : goal.returns-in_err-table-clause-reads
returns-in_err-table-clause-reads g c =
    let p = err_from_is_err_and c.from_residual.result c.from_residual.ensures.1 in
    rw (p.1, p.2) c.in_err-table.ensures.reads

pub returns-in_err-sections-clause-reads : goal.returns-in_err-sections-clause-reads
returns-in_err-sections-clause-reads g c =
    let p = err_from_is_err_and c.from_residual-in_err-sections.result c.from_residual-in_err-sections.ensures.1 in
    let state = g.C.Source.state in
    let e = c.in_err-sections.field-0.0 in
    let read = subst (λ t. ReadsFeatureData {S = Unit {0}} (feature_entries_of t) (state c.read_whole_table.new.source) (Err e) (state c.read_feature_data.new.source)) c.as_slice-entries.ensures.value c.in_err-sections.ensures.reads in
    rw (p.1, p.2) (data_error c.args.endian c.args.header.now c.args.length _ _ _ c.in_ok-table.table c.in_ok-table.ensures.reads (Unit {0}) e c.requires read)

pub returns-clause-reads : goal.returns-clause-reads
returns-clause-reads g c =
    let state = g.C.Source.state in
    let m = c.in_ok-sections.sections in
    let read = subst (λ t. ReadsFeatureData (feature_entries_of t) (state c.read_whole_table.new.source) (Ok m) (state c.read_feature_data.new.source)) c.as_slice-entries.ensures.value c.in_ok-sections.ensures.reads in
    let contains = subst (λ t. ContainsFeatures (feature_entries_of t) c.present_features.result) c.as_slice-entries.ensures.value c.present_features.ensures in
    sections_there c.args.endian c.args.header.now c.args.length _ _ _ c.in_ok-table.table c.in_ok-table.ensures.reads c.present_features.result m contains read
