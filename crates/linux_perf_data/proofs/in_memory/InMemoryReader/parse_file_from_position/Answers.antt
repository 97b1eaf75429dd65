use Rattle.std.proofs.Common.{rules, ◌≡◌, ◌+◌, ◌-◌, ◌^◌, ◌<◌, refl, length}
use Rattle.std.specs.Prelude.{min}
use Rattle.std.specs.Io.Cursor.{cursor_inner, cursor_position}
use Rattle.linux_perf_data.specs.InMemoryReading.{first_record_offset_of}
use Rattle.linux_perf_data.proofs.FilePositions.{bytes_at, moved_parsed}
use Rattle.linux_perf_data.proofs.in_memory.InMemoryReader.parse_file_from_position.Goals as goal

pub invariant_of-records : goal.invariant_of-records
invariant_of-records c =
    let reader = c.in_ok-reader.reader in
    let position = c.args.position in
    let inner : cursor_inner c.set_position.new.self ≡ cursor_inner reader.records.records.source = search rules in
    let at : cursor_position c.set_position.new.self ≡ min (first_record_offset_of reader.records + position.offset) (2 ^ 64 - 1) = search rules in
    let small : length c.args.bytes.now < 2 ^ 63 = search rules in
    record { in_place = λ runs. bytes_at c.args.bytes.now reader c.in_ok-reader.ensures position c.set_position.new.self inner at small }

pub returns : goal.returns
returns c =
    let reader = c.in_ok-reader.reader in
    let position = c.args.position in
    let inner : cursor_inner c.set_position.new.self ≡ cursor_inner reader.records.records.source = search rules in
    let at : cursor_position c.set_position.new.self ≡ min (first_record_offset_of reader.records + position.offset) (2 ^ 64 - 1) = search rules in
    let small : length c.args.bytes.now < 2 ^ 63 = search rules in
    (moved_parsed c.args.bytes.now reader c.in_ok-reader.ensures position _ refl refl (bytes_at c.args.bytes.now reader c.in_ok-reader.ensures position c.set_position.new.self inner at small) refl refl refl (search rules) (search rules), refl)
