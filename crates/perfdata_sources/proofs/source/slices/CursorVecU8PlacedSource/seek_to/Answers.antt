use Rattle.std.specs.Io.Cursor.{cursor_inner, cursor_position}
use Rattle.perfdata_sources.proofs.Seeks.{seeks_cursor}
use Rattle.perfdata_sources.proofs.source.slices.CursorVecU8PlacedSource.seek_to.Goals as goal

pub returns-clause-seeks : goal.returns-clause-seeks
returns-clause-seeks c =
    let s = seeks_cursor (cursor_inner c.args.self.now).items (cursor_position c.args.self.now) (cursor_position c.seek.new.self) c.args.to c.seek.result c.seek.ensures.ok c.seek.ensures.target c.seek.ensures.from_end in
    rw c.seek.ensures.inner s
