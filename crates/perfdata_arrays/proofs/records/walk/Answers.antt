use Rattle.std.proofs.Common.{arith, Ok, [], ◌∷◌, ◌++◌, ap, ◌∙◌, sym}
use Rattle.std.proofs.lemmas.List.{length-map}
use Rattle.linux_perf_data.specs.InMemoryReading.{first_record_offset_of}
use Rattle.linux_perf_data.specs.RecordEntries.{record_entries_at, record_entry_at}
use Rattle.linux_perf_data.specs.RecordViews.{record_view_of}
use Rattle.perfdata_arrays.specs.Overwrites.{with_prefix_from}
use Rattle.perfdata_arrays.proofs.WalkLemmas.{count-fits, read_more, read_next, read_none}
use Rattle.perfdata_arrays.proofs.records.walk.Goals as goal
use Rattle.linux_perf_data.proofs.InMemoryReadings.{offset_after}

pub records-init : goal.records-init
records-init c = record { so_far = read_none c.args.input.now c.args.perf_file.now c.args.start c.args.entries.now }

pub new-entry-requires : goal.new-entry-requires
new-entry-requires c =
    let step = rw (c.in-Ok-Some.is ∙ ap Ok c.in-Ok-Some.field-0-is) at c.next_record.ensures.returns_next in
    let within = step.in_input.ends_in_input in
    let fits = c.next_record.ensures.input_len_fits in
    let first = c.records.invariant.so_far.same_input.first_record_offset in
    let more = c.read_more_entries-count.ensures.same_input.first_record_offset in
    let base = c.first_record_offset-first_record_offset.ensures in
    omega (arith, within, fits, first, more, base)

pub records-preserved : goal.records-preserved
records-preserved c =
    let start = c.args.input.now in
    let array = c.args.entries.now in
    let middle = c.read_more_entries-count.new.input in
    let so_far = read_more start c.records.input middle c.args.perf_file.now c.records.perf_file c.args.start c.records.count c.read_more_entries-count.result array c.records.entries c.read_more_entries-count.new.entries c.records.invariant.so_far c.read_more_entries-count.ensures in
    let base = first_record_offset_of start in
    let place = c.in-Ok-Some.place in
    let found = c.in-Ok-Some.record in
    let step = rw (c.in-Ok-Some.is ∙ ap Ok c.in-Ok-Some.field-0-is) at c.next_record.ensures.returns_next in
    let some = record_entries_at base so_far.records in
    let entry = c.new-entry.ensures ∙ ap (λ n. record_entry_at n (record_view_of place found)) c.first_record_offset-first_record_offset.ensures in
    let written = c.write_record.ensures some array (so_far.count_is ∙ sym (length-map so_far.records (record_entry_at base))) so_far.written
    ∙ ap (λ e. with_prefix_from c.args.start (some ++ e ∷ []) array) entry in
    record { so_far = read_next start middle c.next_record.new.self c.args.perf_file.now c.records.perf_file c.next_record.new.perf_file c.args.start _ array c.read_more_entries-count.new.entries c.write_record.new.entries place found so_far step c.next_record.ensures.same_input written }

pub returns-in-Ok-None : goal.returns-in-Ok-None
returns-in-Ok-None c =
    let so_far = read_more c.args.input.now c.records.input c.read_more_entries-count.new.input c.args.perf_file.now c.records.perf_file c.args.start c.records.count c.read_more_entries-count.result c.args.entries.now c.records.entries c.read_more_entries-count.new.entries c.records.invariant.so_far c.read_more_entries-count.ensures in
    let ended = rw (c.in-Ok-None.is ∙ ap Ok c.in-Ok-None.field-0-is) at c.next_record.ensures.returns_next in
    record { records = so_far.records; input_at_end = c.read_more_entries-count.new.input; file_at_end = c.records.perf_file; returned = so_far.returned; count = so_far.count_is; written = so_far.written; body_bytes_at = so_far.body_bytes_at; ends = ended; memory = tt }

pub returns-in-Err : goal.returns-in-Err
returns-in-Err c =
    let so_far = read_more c.args.input.now c.records.input c.read_more_entries-count.new.input c.args.perf_file.now c.records.perf_file c.args.start c.records.count c.read_more_entries-count.result c.args.entries.now c.records.entries c.read_more_entries-count.new.entries c.records.invariant.so_far c.read_more_entries-count.ensures in
    let failed = rw c.in-Err.is at c.next_record.ensures.returns_next in
    record { records = so_far.records; input_at_end = c.read_more_entries-count.new.input; file_at_end = c.records.perf_file; returned = so_far.returned; count = so_far.count_is; written = so_far.written; body_bytes_at = so_far.body_bytes_at; ends = failed; memory = rw c.in-Err.is at c.next_record.ensures.memory_for_metadata_only }

pub overflow_add-count : goal.overflow_add-count
overflow_add-count c =
    let more = c.read_more_entries-count.ensures in
    let middle = c.read_more_entries-count.new.input in
    let file = c.records.perf_file in
    let below = c.records.invariant.so_far.count_below_offset in
    let past = offset_after c.records.input middle file file more.records (more.returned file) in
    let added = more.more_is in
    let fits = count-fits c.records.input middle file file more.records c.records.count (more.returned file) (omega arith) (omega (arith, below, past)) in
    omega (arith, fits, added)

pub overflow_add-count-in-Ok-Some : goal.overflow_add-count-in-Ok-Some
overflow_add-count-in-Ok-Some c =
    let so_far = read_more c.args.input.now c.records.input c.read_more_entries-count.new.input c.args.perf_file.now c.records.perf_file c.args.start c.records.count c.read_more_entries-count.result c.args.entries.now c.records.entries c.read_more_entries-count.new.entries c.records.invariant.so_far c.read_more_entries-count.ensures in
    let step = rw (c.in-Ok-Some.is ∙ ap Ok c.in-Ok-Some.field-0-is) at c.next_record.ensures.returns_next in
    let below = so_far.count_below_offset in
    let moved = step.returns.offset in
    let at = step.returns.record_offset in
    omega (arith, below, moved, at)

pub records-smaller : goal.records-smaller
records-smaller c =
    let more = c.read_more_entries-count.ensures in
    let past = offset_after c.records.input c.read_more_entries-count.new.input c.records.perf_file c.records.perf_file more.records (more.returned c.records.perf_file) in
    let step = rw (c.in-Ok-Some.is ∙ ap Ok c.in-Ok-Some.field-0-is) at c.next_record.ensures.returns_next in
    let moved = step.returns.offset in
    let at = step.returns.record_offset in
    omega (arith, past, moved, at)
