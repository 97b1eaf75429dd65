use Rattle.std.proofs.Common.{◌∙◌, ap, rules}
use Rattle.std.proofs.lemmas.Result.{err_from_is_err_and}
use Rattle.perfdata_identifiers.specs.Features.{features_of, remaining_features}
use Rattle.linux_perf_data.proofs.FeatureTables.{table_none, table_more, table_truncated, table_full}
use Rattle.linux_perf_data.proofs.file.feature_data.read_section_table.Goals as goal

pub entries-init : goal.entries-init
entries-init g c = record {
  can = tt;
  ends = tt;
  so = table_none c.args.endian (features_of c.args.features.now) _ _ c.new-table.result.items c.new-table.ensures.items (ap remaining_features c.into_iter-feature-iterator.ensures.into_iter_gives ∙ c.iter-feature-items.ensures);
  pauses = search rules;
  same_loan = search rules;
}

pub returns-in_err-entry-clause-reads : goal.returns-in_err-entry-clause-reads
returns-in_err-entry-clause-reads g c =
    let p = err_from_is_err_and c.from_residual.result c.from_residual.ensures.1 in
    rw (p.1, p.2) (table_truncated c.args.endian (features_of c.args.features.now) _ (remaining_features c.next.new.self) _ _ _ _ c.in-Some.feature.0 _ c.entries.invariant.so c.in-Some.ensures.steps c.in_err-entry.ensures.parses)

pub entries-preserved : goal.entries-preserved
entries-preserved g c = record {
  can = tt;
  ends = tt;
  so = table_more c.args.endian (features_of c.args.features.now) _ (remaining_features c.next.new.self) _ _ _ c.entries.table.items c.push.new.self.items c.in-Some.feature c.in_ok-entry.entry c.entries.invariant.so c.in-Some.ensures.steps c.in_ok-entry.ensures.parses c.in_ok-push.ensures.items;
  pauses = search rules;
  same_loan = search rules;
}

pub returns-in_err-push-clause-reads : goal.returns-in_err-push-clause-reads
returns-in_err-push-clause-reads g c =
    let p = err_from_is_err_and c.from_residual-in_err-push.result c.from_residual-in_err-push.ensures.1 in
    rw (p.1, p.2) (table_full c.args.endian (features_of c.args.features.now) _ _ _ _ _ _ c.in_ok-entry.entry c.entries.invariant.so c.in_ok-entry.ensures.parses)
