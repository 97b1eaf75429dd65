use Rattle.std.proofs.Common.{◌≡◌, ◌∙◌, ◌+◌, ◌-◌, [], ap, arith, rules}
use Rattle.std.proofs.lemmas.Result.{err_from_is_err_and}
use Rattle.perfdata_identifiers.specs.Features.{features_of, remaining_features}
use Rattle.linux_perf_data.proofs.UnfinishedSections.{entries_none, entry_pushed, entries_all, entries_counted, entry_error, entry_unkept}
use Rattle.linux_perf_data.proofs.file.unfinished.read_whole_entries.Goals as goal

pub entries-init : goal.entries-init
entries-init g c = record {
  can = tt;
  ends = tt;
  so = entries_none c.args.endian (features_of c.args.features.now) c.args.count c.args.length _ c.new-table.result.items _ c.new-table.ensures.items (ap remaining_features c.into_iter-feature-iterator.ensures.into_iter_gives ∙ c.iter-feature-items.ensures);
  pauses = search rules;
  same_loan = search rules;
}

pub returns-then-left-eq0-clause-reads : goal.returns-then-left-eq0-clause-reads
returns-then-left-eq0-clause-reads g c = entries_counted c.args.endian (features_of c.args.features.now) c.args.count c.args.length _ _ _ _ _ c.entries.invariant.so c.if-left-eq0.true

pub returns-in_err-entry-clause-reads : goal.returns-in_err-entry-clause-reads
returns-in_err-entry-clause-reads g c =
    let p = err_from_is_err_and c.from_residual.result c.from_residual.ensures.1 in
    rw (p.1, p.2) (entry_error c.args.endian (features_of c.args.features.now) c.args.count c.args.length _ _ _ _ _ (remaining_features c.next.new.self) _ c.in-Some.feature.0 _ c.entries.invariant.so c.in-Some.ensures.steps c.if-left-eq0.false c.in_err-entry.ensures.parses)

pub returns-in_err-push_whole_entry-clause-reads : goal.returns-in_err-push_whole_entry-clause-reads
returns-in_err-push_whole_entry-clause-reads g c =
    let p = err_from_is_err_and c.from_residual-in_err-push_whole_entry.result c.from_residual-in_err-push_whole_entry.ensures.1 in
    rw (p.1, p.2) (entry_unkept c.args.endian (features_of c.args.features.now) c.args.count c.args.length _ _ _ _ _ _ c.in_ok-entry.entry _ c.entries.invariant.so c.in_ok-entry.ensures.parses c.in_err-push_whole_entry.ensures)

pub entries-preserved : goal.entries-preserved
entries-preserved g c =
    let left = c.entries.left in
    let some = c.if-left-eq0.false in
    let one_less : left ≡ left - 1 + 1 = omega (arith, some) in
    record {
      can = tt;
      ends = tt;
      so = entry_pushed c.args.endian (features_of c.args.features.now) c.args.count c.args.length _ _ _ c.entries.table.items c.push_whole_entry.new.table.items _ (remaining_features c.next.new.self) left (left - 1) c.in-Some.feature c.in_ok-entry.entry c.entries.invariant.so c.in-Some.ensures.steps one_less c.in_ok-entry.ensures.parses c.in_ok-push_whole_entry.ensures;
      pauses = search rules;
      same_loan = search rules;
    }

pub returns-clause-reads : goal.returns-clause-reads
returns-clause-reads g c =
    let none : remaining_features c.entries.feature-iterator ≡ [] = search rules in
    entries_all c.args.endian (features_of c.args.features.now) c.args.count c.args.length _ _ _ _ _ c.entries.invariant.so none
