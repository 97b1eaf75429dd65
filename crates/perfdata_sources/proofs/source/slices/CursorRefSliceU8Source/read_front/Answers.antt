use Rattle.std.proofs.Common.{rules, ◌≡◌, ◌+◌, ◌≤◌, length, take, drop}
use Rattle.std.specs.Io.Cursor.{cursor_inner, cursor_position}
use Rattle.perfdata_sources.proofs.Seeks.{read_from_cursor}
use Rattle.perfdata_sources.proofs.source.slices.CursorRefSliceU8Source.read_front.Goals as goal

pub returns-then-count-gt0-clause-reads : goal.returns-then-count-gt0-clause-reads
returns-then-count-gt0-clause-reads c = λ _.
    let all = (cursor_inner c.args.self.now).now in
    let at = cursor_position c.args.self.now in
    let n = c.copy_from_offset-count.result in
    let within : n ≤ length c.copy_from_offset-count.new.buf = search rules in
    let same : take n c.copy_from_offset-count.new.buf ≡ take n (drop at all) = search rules in
    let fits : at + n ≤ length all = search rules in
    let consumed = read_from_cursor all c.copy_from_offset-count.new.buf at n c.if-count-gt0.true within same fits in
    let there : cursor_position c.set_position.new.self ≡ at + n = search rules in
    let inner = c.set_position.ensures.inner in
    rw (inner, there) consumed
