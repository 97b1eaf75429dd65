use Rattle.std.proofs.Common.{arith, ◌≡◌, ap, length}
use Rattle.std.specs.Io.Cursor.{cursor_position}
use Rattle.linux_perf_data.specs.steps.FileWalk.{position_of_walk}
use Rattle.linux_perf_data.proofs.WalksAhead.{moved_iter}
use Rattle.linux_perf_data.proofs.in_memory.file_walk.FileWalk.move_iter.Goals as goal

pub returns : goal.returns
returns c = λ fits.
    let position = position_of_walk c.args.records.now c.args.self in
    let long = ap length c.remaining.ensures.value in
    let from = c.position-position.ensures in
    let to = c.set_position.ensures.position in
    let at : cursor_position c.set_position.new.self ≡ position = omega (arith, long, from, to) in
    moved_iter c.args.records.now c.set_position.new.self position c.args.self.offset fits _ c.set_position.ensures.inner at
