use Rattle.std.proofs.Common.{◌∙◌, refl, sym}
use Rattle.std.proofs.lemmas.Result.{err_from_is_err_and}
use Rattle.linux_perf_data.proofs.UnfinishedSections.{pushed_if_whole, unchanged_if_partial}
use Rattle.linux_perf_data.proofs.file.unfinished.push_whole_entry.Goals as goal

pub returns-then-not-contains_section : goal.returns-then-not-contains_section
returns-then-not-contains_section c = unchanged_if_partial c.args.table.now.items _ (c.args.feature, c.args.section) (sym c.contains_section.ensures ∙ c.if-not-contains_section.true)

pub returns-in_err-push : goal.returns-in_err-push
returns-in_err-push c =
    let p = err_from_is_err_and c.from_residual.result c.from_residual.ensures.1 in
    rw (p.1, p.2) refl

pub returns : goal.returns
returns c = pushed_if_whole c.args.table.now.items c.push.new.self.items _ (c.args.feature, c.args.section) (sym c.contains_section.ensures ∙ c.if-not-contains_section.false) c.in_ok-push.ensures.items
