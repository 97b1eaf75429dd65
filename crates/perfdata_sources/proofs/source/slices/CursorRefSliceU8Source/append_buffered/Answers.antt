use Rattle.std.proofs.Common.{rules, refl, ◌≡◌, ◌+◌, ◌++◌, length, take, drop}
use Rattle.std.specs.Io.Cursor.{cursor_inner, cursor_position}
use Rattle.perfdata_sources.proofs.Seeks.{buffered_from_cursor}
use Rattle.perfdata_sources.proofs.source.slices.CursorRefSliceU8Source.append_buffered.Goals as goal

pub returns-clause-appends : goal.returns-clause-appends
returns-clause-appends c =
    let all = (cursor_inner c.args.self.now).now in
    let at = cursor_position c.args.self.now in
    let n = c.args.count in
    let prefix = take n (drop at all) in
    let long : length prefix ≡ n = search rules in
    let holds : c.extend_from_slice.new.self.items ≡ c.args.buffer.now.items ++ prefix = search rules in
    let inner : cursor_inner c.set_position.new.self ≡ cursor_inner c.args.self.now = search rules in
    let there : cursor_position c.set_position.new.self ≡ at + n = search rules in
    record { bytes = prefix; exact_len = long; buffer_content = holds; consumes_buffered = rw (inner, there) (buffered_from_cursor all prefix at n long refl) }
