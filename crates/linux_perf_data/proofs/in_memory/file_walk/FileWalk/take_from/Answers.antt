use Rattle.std.proofs.Common.{rules, arith, ◌≡◌, ◌+◌, take, refl}
use Rattle.std.specs.List.{slice_range}
use Rattle.std.specs.Io.Cursor.{cursor_inner, cursor_position}
use Rattle.perfdata_sources.specs.Source.{Consumed}
use Rattle.linux_perf_data.specs.InMemory.{memory_state}
use Rattle.linux_perf_data.proofs.FileRecordsTaken.{taken_with_body}
use Rattle.linux_perf_data.proofs.WalksAhead.{record_taken_by_walk}
use Rattle.linux_perf_data.proofs.WholeRecordsTaken.{first_consumed}
use Rattle.linux_perf_data.proofs.in_memory.file_walk.FileWalk.take_from.Goals as goal

pub returns : goal.returns
returns c = λ file.
    let it = c.args.records.now in
    let walk = c.args.self in
    let next = c.args.next in
    let bytes = walk.remaining.now in
    let n = next.length in
    let inner : cursor_inner c.set_position.new.self ≡ cursor_inner it.source = search rules in
    let there : cursor_position c.set_position.new.self ≡ cursor_position it.source + n = search rules in
    let consumes : Consumed (memory_state it.source) (take n bytes) (memory_state c.set_position.new.self) = rw (inner, there) (first_consumed (cursor_inner it.source).now bytes (cursor_position it.source) n c.requires.walk.remaining c.requires.next.whole.1) in
    let body = c.take.ensures.body in
    taken_with_body it _ file c.take.result.0 (slice_range bytes 8 n) c.take.result.1.now body
    (record_taken_by_walk it _ walk next c.take.result.0 file c.requires.walk c.requires.next consumes refl refl refl refl (omega arith) refl (rw body at c.take.ensures.identifies) c.take.ensures.keeps_attributes)
