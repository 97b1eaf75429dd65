use Rattle.std.proofs.Common.{rules, ◌≡◌, ◌+◌, length, take, drop}
use Rattle.std.specs.Io.Cursor.{cursor_inner, cursor_position}
use Rattle.perfdata_sources.proofs.Seeks.{buffered_from_cursor}
use Rattle.perfdata_sources.proofs.source.slices.CursorRefSliceU8Source.read_buffered.Goals as goal

pub returns-clause-reads_buffered : goal.returns-clause-reads_buffered
returns-clause-reads_buffered c =
    let all = (cursor_inner c.args.self.now).now in
    let at = cursor_position c.args.self.now in
    let prefix = c.copy_from_slice.new.self in
    let n = length c.args.buf.now in
    let long : length prefix ≡ n = search rules in
    let is : prefix ≡ take n (drop at all) = search rules in
    let inner : cursor_inner c.set_position.new.self ≡ cursor_inner c.args.self.now = search rules in
    let there : cursor_position c.set_position.new.self ≡ at + n = search rules in
    rw (inner, there) (buffered_from_cursor all prefix at n long is)
