-- What follows where a walk finds no record.
use Rattle.std.proofs.Common.{◌≡◌, ◌^◌, ◌<◌, ℕ, ◌+◌, ◌≤◌, take, drop, length, sym, ap, ◌∙◌, subst, arith, Some}
use Rattle.std.proofs.lemmas.Option.{same_Some}
use Rattle.std.specs.Io.Cursor.{cursor_inner, cursor_position}
use Rattle.std.proofs.lemmas.List.{length-take-le, take-append-drop}
use Rattle.perfdata_sections.specs.RecordTypes.{finished_round}
use Rattle.linux_perf_data.specs.declared.in_memory.file_walk.FileWalk.{FileWalk}
use Rattle.linux_perf_data.specs.steps.BufferedRecord.{WholeRecordLength}
use Rattle.linux_perf_data.specs.declared.in_memory.InMemoryRecords.{InMemoryRecords}
use Rattle.linux_perf_data.specs.steps.FileWalk.{IsWalkOf, WalkStartsWithMarkerAtMost}
use Rattle.linux_perf_data.specs.RecordInput.{section_size_in}
use Rattle.linux_perf_data.specs.Layout.{StartsWithRecord, record_type_of}
use Rattle.linux_perf_data.specs.RecordEntries.{StartsWithMarkerAtMost}
use Rattle.linux_perf_data.proofs.BufferedRecords.{says}
use Rattle.linux_perf_data.proofs.RecordHeaders.{same_prefix}

-- a record that ends at 2 ^ 64 or later
pub marker_at_most_if_end_overflows : (walk : FileWalk) (n : ℕ) → WholeRecordLength walk.endian walk.remaining.now (Some n) → 2 ^ 64 ≤ walk.offset + n → WalkStartsWithMarkerAtMost walk
marker_at_most_if_end_overflows walk n whole overflows = λ may_start p starts.
    let bytes = walk.remaining.now in
    let same = same_prefix walk.endian p (take n bytes) starts.after_record (drop n bytes) starts.is_record whole.2 (sym starts.split ∙ sym (take-append-drop n bytes)) in
    let long = ap length same.0 in
    let fits = starts.end_fits in
    absurd (omega (arith, long, length-take-le n bytes whole.1, fits, overflows))

-- what the walk says, of the records in memory
pub marker_at_most_of_records : (records : InMemoryRecords) (walk : FileWalk) → IsWalkOf records.records walk → WalkStartsWithMarkerAtMost walk → StartsWithMarkerAtMost records
marker_at_most_of_records records walk is only = λ running size section may_start rest p bytes starts.
    let order = records.records.endian in
    let start = records.records.offset in
    let size_is : size ≡ walk.section_size = same_Some size walk.section_size (sym section ∙ ap section_size_in is.section) in
    let rest_is : rest ≡ walk.remaining.now = same_Some rest (drop (cursor_position records.records.source) (cursor_inner records.records.source).now) (sym bytes) ∙ sym is.remaining in
    let may : walk.offset < walk.section_size = (let same = is.offset in omega (arith, same, size_is, may_start)) in
    let by_rest : StartsWithRecord order start walk.remaining.now p = subst (λ l. StartsWithRecord order start l p) rest_is starts in
    let by_offset : StartsWithRecord order walk.offset walk.remaining.now p = subst (λ o. StartsWithRecord order o walk.remaining.now p) (sym is.offset) by_rest in
    subst (λ e. record_type_of e p ≡ finished_round) is.same_endian (only may p (subst (λ e. StartsWithRecord e walk.offset walk.remaining.now p) (sym is.same_endian) by_offset))
