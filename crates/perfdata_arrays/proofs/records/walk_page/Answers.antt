use Rattle.std.proofs.Common.{arith, ◌≡◌, Ok, ◌<◌, length, ap, ◌∙◌, sym, inr}
use Rattle.std.proofs.lemmas.List.{length-map}
use Rattle.std.specs.Prelude.{slice_set}
use Rattle.linux_perf_data.specs.InMemoryReading.{first_record_offset_of}
use Rattle.linux_perf_data.specs.RecordEntries.{record_entries_at, record_entry_at}
use Rattle.linux_perf_data.specs.RecordViews.{record_view_of}
use Rattle.linux_perf_data.proofs.EntryLemmas.{length-with_prefix, with_prefix-snoc}
use Rattle.perfdata_arrays.proofs.WalkLemmas.{ReadSoFar, full_page, read_more, read_next, read_none}
use Rattle.perfdata_arrays.proofs.records.walk_page.Goals.{else-records-test, then-records-test+then-count-entries}
use Rattle.perfdata_arrays.proofs.records.walk_page.Goals as goal

pub records-init : goal.records-init
records-init c = record { count_fits = omega arith; so_far = read_none c.args.input.now c.args.perf_file.now 0 c.args.entries.now }

pub new-requires : goal.new-requires
new-requires c =
    let step = rw (c.in-Ok-Some.is ∙ ap Ok c.in-Ok-Some.field-0-is) at c.next_record.ensures.returns_next in
    let within = step.in_input.ends_in_input in
    let fits = c.next_record.ensures.input_len_fits in
    let first = c.records.invariant.so_far.same_input.first_record_offset in
    let more = c.read_more_entries.ensures.same_input.first_record_offset in
    let base = c.first_record_offset-first_record_offset.ensures in
    omega (arith, within, fits, first, more, base)

pub records-preserved : goal.records-preserved
records-preserved c =
    let start = c.args.input.now in
    let array = c.args.entries.now in
    let before = c.records.invariant in
    let middle = c.read_more_entries.new.input in
    let more = c.read_more_entries.ensures in
    let so_far = read_more start c.records.input middle c.args.perf_file.now c.records.perf_file 0 c.records.count c.read_more_entries.result array c.records.entries c.read_more_entries.new.entries before.so_far more in
    let base = first_record_offset_of start in
    let place = c.in-Ok-Some.place in
    let found = c.in-Ok-Some.record in
    let h = record_view_of place found in
    let step = rw (c.in-Ok-Some.is ∙ ap Ok c.in-Ok-Some.field-0-is) at c.next_record.ensures.returns_next in
    let some = record_entries_at base so_far.records in
    let long = length-map so_far.records (record_entry_at base) in
    let count = so_far.count_is in
    let entry = c.new.ensures ∙ ap (λ n. record_entry_at n h) c.first_record_offset-first_record_offset.ensures in
    let free : length some < length array = (let test = c.records-test.true in let other = c.if-count-entries.false in let fits = more.fits in let same = ap length before.so_far.written in let all = ap length so_far.written in
    omega (arith, long, count, other, test, fits (omega (arith, test)), same, all, length-with_prefix (record_entries_at base before.so_far.records) array, length-with_prefix some array)) in
    let written = (λ i. slice_set (so_far.written i) ((count ∙ sym long) i) (entry i)) ∙ sym (with_prefix-snoc some array (record_entry_at base h) free) in
    record {
      count_fits = omega (arith, count, long, free);
      so_far = read_next start middle c.next_record.new.self c.args.perf_file.now c.records.perf_file c.next_record.new.perf_file 0 _ array c.read_more_entries.new.entries _ place found so_far step c.next_record.ensures.same_input written;
    }

pub returns-in-Ok-None : goal.returns-in-Ok-None
returns-in-Ok-None c =
    let array = c.args.entries.now in
    let before = c.records.invariant in
    let more = c.read_more_entries.ensures in
    let so_far = read_more c.args.input.now c.records.input c.read_more_entries.new.input c.args.perf_file.now c.records.perf_file 0 c.records.count c.read_more_entries.result array c.records.entries c.read_more_entries.new.entries before.so_far more in
    let ended = rw (c.in-Ok-None.is ∙ ap Ok c.in-Ok-None.field-0-is) at c.next_record.ensures.returns_next in
    let count = so_far.count_is in
    let base = first_record_offset_of c.args.input.now in
    let free : length so_far.records < length array = (let test = c.records-test.true in let other = c.if-count-entries.false in let fits = more.fits in let same = ap length before.so_far.written in let all = ap length so_far.written in
    omega (arith, count, other, test, fits (omega (arith, test)), same, all, length-with_prefix (record_entries_at base before.so_far.records) array, length-with_prefix (record_entries_at base so_far.records) array)) in
    record { records = so_far.records; input_at_end = c.read_more_entries.new.input; file_at_end = c.records.perf_file; returned = so_far.returned; next = c.position-next.ensures; count = count; fits = omega (arith, free); written = so_far.written; body_bytes_at = so_far.body_bytes_at; ends = inr (free, ended, tt) }

pub returns-in-Err : goal.returns-in-Err
returns-in-Err c =
    let array = c.args.entries.now in
    let before = c.records.invariant in
    let more = c.read_more_entries.ensures in
    let so_far = read_more c.args.input.now c.records.input c.read_more_entries.new.input c.args.perf_file.now c.records.perf_file 0 c.records.count c.read_more_entries.result array c.records.entries c.read_more_entries.new.entries before.so_far more in
    let failed = rw c.in-Err.is at c.next_record.ensures.returns_next in
    let needs = rw c.in-Err.is at c.next_record.ensures.memory_in_pipe_only in
    let count = so_far.count_is in
    let base = first_record_offset_of c.args.input.now in
    let free : length so_far.records < length array = (let test = c.records-test.true in let other = c.if-count-entries.false in let fits = more.fits in let same = ap length before.so_far.written in let all = ap length so_far.written in
    omega (arith, count, other, test, fits (omega (arith, test)), same, all, length-with_prefix (record_entries_at base before.so_far.records) array, length-with_prefix (record_entries_at base so_far.records) array)) in
    record { records = so_far.records; input_at_end = c.read_more_entries.new.input; file_at_end = c.records.perf_file; returned = so_far.returned; next = c.position-next.ensures; count = count; fits = omega (arith, free); written = so_far.written; body_bytes_at = so_far.body_bytes_at; ends = inr (free, failed, needs) }

pub returns : goal.returns
returns c =
    let old = c.args.input.now in
    let array = c.args.entries.now in
    let before = c.records.invariant in
    let page : ReadSoFar old c.args.perf_file.now 0 array c.records-test.count c.records-test.input c.records.perf_file c.records-test.entries × (c.records-test.count ≡ length array) = elim c.records-test.branch [
      | else-records-test w ↦ (let fits = before.count_fits in let test = w.records-test.false in let same = c.records.auto.entries in let is = w.count-is in
          (rw (w.input-is, w.entries-is, w.count-is) before.so_far, omega (arith, fits, test, same, is)))
      | then-records-test+then-count-entries w ↦ (
          let more = w.read_more_entries.ensures in
          let so_far = read_more old c.records.input w.read_more_entries.new.input c.args.perf_file.now c.records.perf_file 0 c.records.count w.read_more_entries.result array c.records.entries w.read_more_entries.new.entries before.so_far more in
          let full = w.if-count-entries.true in let is = w.count-is in let all = ap length so_far.written in
          (rw (w.input-is, w.entries-is, w.count-is) so_far, omega (arith, full, is, all, length-with_prefix (record_entries_at (first_record_offset_of old) so_far.records) array)))
    ] in
    full_page old c.records-test.input c.args.perf_file.now c.records.perf_file array c.records-test.entries c.records-test.count c.position.result page.0 c.position.ensures page.1
