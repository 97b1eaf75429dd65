use Rattle.std.proofs.Common.{rules, arith, ◌≡◌, ◌+◌, ◌-◌, ◌^◌, ◌<◌, ◌==◌, length, take, drop, refl, Some}
use Rattle.std.specs.Prelude.{if◌then◌else◌}
use Rattle.std.proofs.lemmas.List.{length-drop, length-take}
use Rattle.std.specs.Io.Cursor.{cursor_inner, cursor_position}
use Rattle.perfdata_sources.specs.Source.{Consumed}
use Rattle.perfdata_sections.specs.RecordTypes.{finished_round}
use Rattle.linux_perf_data.specs.steps.BufferedRecord.{WholeRecordLength}
use Rattle.linux_perf_data.specs.RecordInput.{HasNoPendingHeader}
use Rattle.linux_perf_data.specs.InMemory.{memory_state}
use Rattle.linux_perf_data.proofs.InMemoryCalls.{buffer_of}
use Rattle.linux_perf_data.proofs.WholeRecordsTaken.{body_of_first, first_consumed, whole_record_read}
use Rattle.linux_perf_data.proofs.in_memory.raw_record.take_whole_record.Goals as goal

pub returns-then-header-eq-PERF_RECORD_FINISHED_ROUND-clause-whole_record : goal.returns-then-header-eq-PERF_RECORD_FINISHED_ROUND-clause-whole_record
returns-then-header-eq-PERF_RECORD_FINISHED_ROUND-clause-whole_record c =
    let it = c.args.records.now in
    let bytes = c.remaining-bytes.result.now in
    let n = c.in_ok-header.length in
    let header = c.in_ok-header.header in
    let marker = c.if-header-eq-PERF_RECORD_FINISHED_ROUND.true in
    let whole : WholeRecordLength it.endian bytes (Some n) = c.in_ok-header.ensures.1 in
    let none : HasNoPendingHeader it.input = search rules in
    let inner : cursor_inner c.set_position.new.self ≡ cursor_inner it.source = search rules in
    let there : cursor_position c.set_position.new.self ≡ cursor_position it.source + n = search rules in
    let consumes : Consumed (memory_state it.source) (take n bytes) (memory_state c.set_position.new.self) = rw (inner, there) (first_consumed (cursor_inner it.source).now bytes (cursor_position it.source) n c.remaining-bytes.ensures.value whole.1) in
    let end : c.in_ok-end.end ≡ it.offset + n = search rules in
    let fits : c.in_ok-end.end < 2 ^ 64 = search rules in
    let round : it.round + 1 ≡ (if header.type_ == finished_round then it.round + 1 else it.round) = search rules in
    (marker, whole_record_read it _ header bytes n whole c.in_ok-header.ensures.0 none consumes refl refl refl refl end fits round (λ other. absurd (other marker)) (λ _. c.requires))

pub returns-clause-whole_record : goal.returns-clause-whole_record
returns-clause-whole_record c =
    let it = c.args.records.now in
    let bytes = c.remaining-bytes.result.now in
    let n = c.in_ok-header.length in
    let header = c.in_ok-header.header in
    let other = c.if-header-eq-PERF_RECORD_FINISHED_ROUND.false in
    let whole : WholeRecordLength it.endian bytes (Some n) = c.in_ok-header.ensures.1 in
    let none : HasNoPendingHeader it.input = search rules in
    let inner : cursor_inner c.set_position.new.self ≡ cursor_inner it.source = search rules in
    let there : cursor_position c.set_position.new.self ≡ cursor_position it.source + n = search rules in
    let consumes : Consumed (memory_state it.source) (take n bytes) (memory_state c.set_position.new.self) = rw (inner, there) (first_consumed (cursor_inner it.source).now bytes (cursor_position it.source) n c.remaining-bytes.ensures.value whole.1) in
    let end : c.in_ok-end.end ≡ it.offset + n = search rules in
    let fits : c.in_ok-end.end < 2 ^ 64 = search rules in
    let round : it.round ≡ (if header.type_ == finished_round then it.round + 1 else it.round) = search rules in
    let body = take (n - 8) (drop 8 bytes) in
    let small : length body < 2 ^ 63 = (let fits = c.remaining-bytes.ensures.fits in omega (arith, fits, length-take (n - 8) (drop 8 bytes), length-drop 8 bytes)) in
    let buffer = buffer_of it.body body small in
    record {
      not_marker = other;
      buffer = buffer;
      buffered_body = refl;
      raw_record_read = whole_record_read it _ header bytes n whole c.in_ok-header.ensures.0 none consumes refl refl refl refl end fits round (λ _. body_of_first bytes n whole.0) (λ marker. absurd (other marker));
    }
