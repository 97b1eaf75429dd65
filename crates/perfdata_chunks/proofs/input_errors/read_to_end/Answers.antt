use Rattle.std.proofs.Common.{rules, arith, Ok, [], ◌∷◌, ◌++◌, refl, ap, ◌∙◌}
use Rattle.linux_perf_data.specs.RecordViews.{record_view_of}
use Rattle.linux_perf_data.proofs.InMemoryReadings.{one_call_more}
use Rattle.perfdata_chunks.proofs.input_errors.read_to_end.Goals as goal

pub records-init : goal.records-init
records-init c = record { so_far = ([], (refl, refl)) }

pub records-preserved : goal.records-preserved
records-preserved c =
    let before = c.records.invariant.so_far in
    let place = c.in-Ok-Some._place in
    let found = c.in-Ok-Some._record in
    let step = rw (c.in-Ok-Some.is ∙ ap Ok c.in-Ok-Some.field-0-is) at c.next_record.ensures.returns_next in
    record { so_far = (before.0 ++ record_view_of place found ∷ [], one_call_more c.args.input.now c.records.input c.next_record.new.self c.args.perf_file.now c.records.perf_file c.next_record.new.perf_file before.0 place found before.1 step) }

pub records-smaller : goal.records-smaller
records-smaller c =
    let step = rw (c.in-Ok-Some.is ∙ ap Ok c.in-Ok-Some.field-0-is) at c.next_record.ensures.returns_next in
    let moved = step.returns.offset in
    let at = step.returns.record_offset in
    omega (arith, moved, at)

pub returns-in-Ok-None : goal.returns-in-Ok-None
returns-in-Ok-None c =
    let before = c.records.invariant.so_far in
    record {
      records = before.0;
      last = c.records.input;
      last_file = c.records.perf_file;
      returned = before.1;
      new = c.next_record.new.self;
      new_file = c.next_record.new.perf_file;
      ends = rw (c.in-Ok-None.is ∙ ap Ok c.in-Ok-None.field-0-is) at c.next_record.ensures.returns_next;
    }

pub returns-in-Err : goal.returns-in-Err
returns-in-Err c =
    let before = c.records.invariant.so_far in
    let failed = rw c.in-Err.is at c.next_record.ensures.returns_next in
    record {
      records = before.0;
      last = c.records.input;
      last_file = c.records.perf_file;
      returned = before.1;
      new = c.next_record.new.self;
      new_file = c.next_record.new.perf_file;
      ends = (c.in-Err.error, failed, search rules);
    }
