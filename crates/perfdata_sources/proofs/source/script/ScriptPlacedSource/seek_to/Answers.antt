use Rattle.std.proofs.lemmas.Result.{err_from_is_err_and}
use Rattle.perfdata_sources.proofs.VisibleLengths.{seek_succeeded_visible, seek_error_visible}
use Rattle.perfdata_sources.proofs.source.script.ScriptPlacedSource.seek_to.Goals as goal

pub returns-clause-seeks : goal.returns-clause-seeks
returns-clause-seeks c =
    let s = c.args.self.now in
    seek_succeeded_visible s.bytes.items s.shown s.position c.in_ok-at.at s.errors s.pauses c.args.to _ (rw (c.set_position.ensures.inner, c.set_position.ensures.position, c.new-shown.ensures.inner, c.deref.ensures.value) at c.in_ok-at.ensures.seeks)

pub returns-in_err-at-clause-seeks : goal.returns-in_err-at-clause-seeks
returns-in_err-at-clause-seeks c =
    let p = err_from_is_err_and c.from_residual.result c.from_residual.ensures.1 in
    let s = c.args.self.now in
    rw (p.1) (seek_error_visible s.bytes.items s.shown s.position s.errors s.pauses c.args.to _ (rw (c.set_position.ensures.inner, c.set_position.ensures.position, c.new-shown.ensures.inner, c.deref.ensures.value) at c.in_err-at.ensures.seeks.1))
