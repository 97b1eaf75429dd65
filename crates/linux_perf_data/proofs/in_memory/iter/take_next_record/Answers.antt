use Rattle.std.proofs.Common.{arith, refl, ap, subst, [], ◌∙◌}
use Rattle.perfdata_sources.proofs.ConsumedLemmas.{consumed_none}
use Rattle.linux_perf_data.specs.declared.in_memory.raw_record.RawRecord.TheVariants.{Marker, Record, End}
use Rattle.linux_perf_data.specs.RecordViews.{record_view_with}
use Rattle.linux_perf_data.specs.Iter.{iter_source_state, ReturnsRecord}
use Rattle.linux_perf_data.specs.steps.IterSteps.{RecordProcessed, RecordRejected}
use Rattle.linux_perf_data.specs.InMemory.{memory_state, with_buffer}
use Rattle.linux_perf_data.proofs.IterCalls.{running_not_ended, running_not_failed, idles_on, returns_record, stops, section_ends, pipe_ends, same_later}
use Rattle.linux_perf_data.proofs.InMemoryCalls.{raw_record_taken, rejected_stops, rejected_consumes}
use Rattle.linux_perf_data.proofs.in_memory.iter.take_next_record.Goals as goal

pub raw_records-init : goal.raw_records-init
raw_records-init c = record {
  idles = record {
    ran = c.in-Running.is;
    runs = c.in-Running.is;
    same = record { same_endian = refl; section_size = refl };
    known = refl;
    empty = c.clear.ensures.items;
    fits = omega arith;
    markers = [];
    offset = omega arith;
    skipped_markers = record { raw_records = []; split = refl; elements = _ };
    round = omega arith;
    consumption = consumed_none (iter_source_state memory_state c.args.records.now);
    before = λ rest attrs rs e come. come;
  };
  file = refl;
}

pub raw_records-preserved : goal.raw_records-preserved
raw_records-preserved c =
    let i = c.raw_records.invariant in
    let t = raw_record_taken _ _ _ (Marker _) c.in-Ok-Marker.field-0-is c.in-Ok-Marker.ensures.raw_record in
    record {
      idles = idles_on memory_state _ c.raw_records.records c.take_raw_record.new.records _ i.idles t.1 t.0 c.raw_records-test.ensures;
      file = i.file;
    }

pub returns-in-Ok : goal.returns-in-Ok
returns-in-Ok c =
    let i = c.raw_records.invariant in
    let now = c.raw_records.records in
    let header_bytes = c.in-Ok-Record.header in
    let t = raw_record_taken _ _ _ (Record header_bytes c.in-Ok-Record.body) c.in-Ok-Record.field-0-is c.in-Ok-Record.ensures.raw_record in
    let piece = with_buffer c.take_raw_record.new.records t.buffer in
    let new = with_buffer c.process_record.new.records t.buffer in
    let step = subst (λ f. RecordProcessed memory_state piece f now.offset now.round header_bytes c.in-Ok.identified new c.process_record.new.perf_file) i.file (c.in-Ok.ensures.processes t.buffer t.buffered_body) in
    record {
      buffer = t.buffer;
      returns = subst (λ b. ReturnsRecord memory_state c.args.records.now c.args.perf_file.now (record_view_with new.attribute_lookup c.in-Ok.identified new.endian b) new c.process_record.new.perf_file) t.buffered_body
          (returns_record memory_state c.args.records.now now piece new c.args.perf_file.now c.process_record.new.perf_file header_bytes c.in-Ok.identified i.idles t.raw_record_read t.not_marker c.raw_records-test.ensures step);
    }

pub returns-in-Err-process_record : goal.returns-in-Err-process_record
returns-in-Err-process_record c =
    let i = c.raw_records.invariant in
    let now = c.raw_records.records in
    let header_bytes = c.in-Ok-Record.header in
    let e = c.in-Err-process_record.error in
    let t = raw_record_taken _ _ _ (Record header_bytes c.in-Ok-Record.body) c.in-Ok-Record.field-0-is c.in-Ok-Record.ensures.raw_record in
    let piece = with_buffer c.take_raw_record.new.records t.buffer in
    let new = with_buffer c.process_record.new.records t.buffer in
    let d = subst (λ f. RecordRejected memory_state piece f header_bytes e new c.process_record.new.perf_file) i.file (c.in-Err-process_record.ensures.processes t.buffer t.buffered_body) in
    let empty = ap (λ v. v.items) (c.in-Err-process_record.ensures.same_buffer ∙ c.in-Ok-Record.ensures.same_buffer) ∙ i.idles.empty in (
      record {
        stage_failed = refl;
        not_ended = running_not_ended _ i.idles.ran;
        if_failed = λ failed. absurd (running_not_failed _ i.idles.ran failed);
        only_if_failed = λ is. absurd (d.not_failed is);
        if_running = λ _. rejected_stops c.args.records.now now c.take_raw_record.new.records c.process_record.new.records _ t.buffer c.args.perf_file.now c.process_record.new.perf_file header_bytes e i.idles t.raw_record_read t.not_marker c.raw_records-test.ensures d refl refl refl refl empty;
        same_file = d.same_file;
      },
      λ _. rejected_consumes c.args.records.now now c.take_raw_record.new.records c.process_record.new.records _ t.buffer c.args.perf_file.now c.process_record.new.perf_file header_bytes e i.idles t.raw_record_read d refl refl refl,
    )

pub returns-in-Ok-End : goal.returns-in-Ok-End
returns-in-Ok-End c =
    let i = c.raw_records.invariant in
    let new = c.take_raw_record.new.records in
    let cut = raw_record_taken _ _ _ End c.in-Ok-End.field-0-is c.in-Ok-End.ensures.raw_record in
    record {
      stage_ended = refl;
      not_failed = running_not_failed _ i.idles.ran;
      if_ended = λ ended. absurd (running_not_ended _ i.idles.ran ended);
      if_running = λ _. pipe_ends memory_state c.args.records.now c.raw_records.records new _ i.idles cut (record { source = refl; input = refl; body = refl; round = refl }) refl;
      file_unchanged = i.file;
    }

pub returns-in-Err : goal.returns-in-Err
returns-in-Err c =
    let i = c.raw_records.invariant in
    let new = c.take_raw_record.new.records in
    let r = c.in-Err.ensures.raw_record in (
      record {
        stage_failed = refl;
        not_ended = running_not_ended _ i.idles.ran;
        if_failed = λ failed. absurd (running_not_failed _ i.idles.ran failed);
        only_if_failed = λ is. absurd (r.1.error.not_failed is);
        if_running = λ _. stops memory_state c.args.records.now c.raw_records.records new _ c.args.perf_file.now c.in-Err.error i.idles c.raw_records-test.ensures r.1 (record { source = refl; input = refl; body = refl; round = refl }) refl;
        same_file = same_later c.raw_records.perf_file c.args.perf_file.now i.file;
      },
      λ m. absurd (r.0 m),
    )

pub returns : goal.returns
returns c =
    let i = c.raw_records.invariant in
    record {
      stage_ended = refl;
      not_failed = running_not_failed _ i.idles.ran;
      if_ended = λ ended. absurd (running_not_ended _ i.idles.ran ended);
      if_running = λ _. section_ends memory_state c.args.records.now c.raw_records.records _ i.idles c.raw_records-test.ensures (record { source = refl; input = refl; body = refl; round = refl }) refl;
      file_unchanged = i.file;
    }
