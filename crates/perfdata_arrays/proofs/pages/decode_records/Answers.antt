use Rattle.std.proofs.Common.{arith, refl, Ok, Err, ap, ◌∙◌}
use Rattle.linux_perf_data.specs.Descriptions.{described_attributes}
use Rattle.linux_perf_data.specs.PerfFile.{attributes_of_file}
use Rattle.perfdata_arrays.proofs.DecodedWalks.{decodes_records, exceeds_next, none_so_far, one_more, same_length}
use Rattle.perfdata_arrays.specs.declared.pages.WalkEnd.TheVariants.{Full, Exceeded, Records}
use Rattle.perfdata_arrays.proofs.pages.decode_records.Goals as goal

pub records-init : goal.records-init
records-init g c = record { so_far = none_so_far g.D.RecordDecoder.kind c.args.counts_all c.args.input.now c.args.perf_file.now c.args.entries.now c.args.frames.now }

pub decode-requires-clause-in_range : goal.decode-requires-clause-in_range
decode-requires-clause-in_range g c =
    let step = rw (c.in-Ok-Some.is ∙ ap Ok c.in-Ok-Some.field-0-is) at c.next_record.ensures.returns_next in
    let within = step.in_input.ends_in_input in
    let fits = c.next_record.ensures.input_len_fits in
    let first = c.records.invariant.so_far.same_first in
    let base = c.first_record_offset-base.ensures in
    omega (arith, within, fits, first, base)

pub records-preserved : goal.records-preserved
records-preserved g c =
    let step = rw (c.in-Ok-Some.is ∙ ap Ok c.in-Ok-Some.field-0-is) at c.next_record.ensures.returns_next in
    record {
      so_far = one_more g.D.RecordDecoder.kind c.args.counts_all c.args.input.now c.args.perf_file.now c.args.entries.now c.args.frames.now c.records.count c.records.used c.records.input c.records.perf_file c.records.entries c.records.frames c.records.invariant.so_far
          c.next_record.new.self c.next_record.new.perf_file c.in-Ok-Some.place c.in-Ok-Some.record step c.next_record.ensures.same_input c.first_record_offset-base.result c.first_record_offset-base.ensures c.in-Ok.added c.decode.new.entries c.decode.new.frames c.in-Ok.ensures;
    }

pub overflow_add-count : goal.overflow_add-count
overflow_add-count g c =
    let step = rw (c.in-Ok-Some.is ∙ ap Ok c.in-Ok-Some.field-0-is) at c.next_record.ensures.returns_next in
    let w = c.in-Ok.ensures in
    let few = w.few.0 in
    let added = w.count_is in
    let below = c.records.invariant.so_far.count_below in
    let moved = step.returns.offset in
    let at = step.returns.record_offset in
    let fits = step.returns.offset_fits in
    omega (arith, few, added, below, moved, at, fits)

pub overflow_add-used : goal.overflow_add-used
overflow_add-used g c =
    let step = rw (c.in-Ok-Some.is ∙ ap Ok c.in-Ok-Some.field-0-is) at c.next_record.ensures.returns_next in
    let w = c.in-Ok.ensures in
    let few = w.few.1 in
    let added = w.frames_count_is in
    let below = c.records.invariant.so_far.used_below in
    let moved = step.returns.offset in
    let at = step.returns.record_offset in
    let fits = step.returns.offset_fits in
    omega (arith, few, added, below, moved, at, fits)

pub returns-in-Err-decode : goal.returns-in-Err-decode
returns-in-Err-decode g c =
    let step = rw (c.in-Ok-Some.is ∙ ap Ok c.in-Ok-Some.field-0-is) at c.next_record.ensures.returns_next in
    let e = c.in-Err-decode.ensures in
    let same = same_length g.D.RecordDecoder.kind c.args.counts_all c.args.input.now c.args.perf_file.now c.args.entries.now c.args.frames.now c.records.count c.records.used c.records.input c.records.perf_file c.records.entries c.records.frames c.records.invariant.so_far in
    let counted = c.records.invariant.so_far.count_is in
    let free = c.reads_more.ensures.more c.records-test.true e.in_page in
    decodes_records g.D.RecordDecoder.kind c.args.counts_all c.args.input.now c.args.perf_file.now c.args.entries.now c.args.frames.now c.records.count c.records.used c.records.input c.records.perf_file c.records.entries c.records.frames c.records.invariant.so_far c.next_record.new.self c.next_record.new.perf_file c.decode.new.entries c.decode.new.frames c.position-next.result (Exceeded c.in-Err-decode.needed) c.walk_end.result c.walk_end.ensures c.position-next.ensures e.unchanged e.frames_unchanged (
      e.in_page,
      omega (arith, free, same, counted),
      exceeds_next g.D.RecordDecoder.kind c.args.counts_all c.args.input.now c.args.perf_file.now c.args.entries.now c.args.frames.now c.records.count c.records.used c.records.input c.records.perf_file c.records.entries c.records.frames c.records.invariant.so_far
          c.next_record.new.self c.next_record.new.perf_file c.in-Ok-Some.place c.in-Ok-Some.record step c.next_record.ensures.same_input c.first_record_offset-base.result c.first_record_offset-base.ensures c.in-Err-decode.needed c.decode.new.entries c.decode.new.frames e,
    )

pub returns-in-Ok-None : goal.returns-in-Ok-None
returns-in-Ok-None g c =
    let ended = rw (c.in-Ok-None.is ∙ ap Ok c.in-Ok-None.field-0-is) at c.next_record.ensures.returns_next in
    let same = same_length g.D.RecordDecoder.kind c.args.counts_all c.args.input.now c.args.perf_file.now c.args.entries.now c.args.frames.now c.records.count c.records.used c.records.input c.records.perf_file c.records.entries c.records.frames c.records.invariant.so_far in
    let so_far = c.records.invariant.so_far in
    let counted = so_far.count_is in
    decodes_records g.D.RecordDecoder.kind c.args.counts_all c.args.input.now c.args.perf_file.now c.args.entries.now c.args.frames.now c.records.count c.records.used c.records.input c.records.perf_file c.records.entries c.records.frames c.records.invariant.so_far c.next_record.new.self c.next_record.new.perf_file c.records.entries c.records.frames c.position-next.result (Records (Ok tt)) c.walk_end-in-Ok-None.result c.walk_end-in-Ok-None.ensures c.position-next.ensures refl refl
    record {
      fewer = λ page. (let free = c.reads_more.ensures.more c.records-test.true page in omega (arith, free, same, counted));
      ends = ended;
      in_pipe_only = tt;
      for_metadata_only = tt;
      attributes_are = ap attributes_of_file ended.file_unchanged ∙ so_far.attributes_are;
    }

pub returns-in-Err : goal.returns-in-Err
returns-in-Err g c =
    let failed = rw c.in-Err.is at c.next_record.ensures.returns_next in
    let same = same_length g.D.RecordDecoder.kind c.args.counts_all c.args.input.now c.args.perf_file.now c.args.entries.now c.args.frames.now c.records.count c.records.used c.records.input c.records.perf_file c.records.entries c.records.frames c.records.invariant.so_far in
    let so_far = c.records.invariant.so_far in
    let counted = so_far.count_is in
    decodes_records g.D.RecordDecoder.kind c.args.counts_all c.args.input.now c.args.perf_file.now c.args.entries.now c.args.frames.now c.records.count c.records.used c.records.input c.records.perf_file c.records.entries c.records.frames c.records.invariant.so_far c.next_record.new.self c.next_record.new.perf_file c.records.entries c.records.frames c.position-next.result (Records (Err c.in-Err.error)) c.walk_end-in-Err.result c.walk_end-in-Err.ensures c.position-next.ensures refl refl
    record {
      fewer = λ page. (let free = c.reads_more.ensures.more c.records-test.true page in omega (arith, free, same, counted));
      ends = failed;
      in_pipe_only = rw c.in-Err.is at c.next_record.ensures.memory_in_pipe_only;
      for_metadata_only = rw c.in-Err.is at c.next_record.ensures.memory_for_metadata_only;
      attributes_are = ap described_attributes failed.same_file.descriptions ∙ so_far.attributes_are;
    }

pub returns : goal.returns
returns g c =
    let same = same_length g.D.RecordDecoder.kind c.args.counts_all c.args.input.now c.args.perf_file.now c.args.entries.now c.args.frames.now c.records.count c.records.used c.records.input c.records.perf_file c.records.entries c.records.frames c.records.invariant.so_far in
    let so_far = c.records.invariant.so_far in
    let counted = so_far.count_is in
    let page = c.reads_more.ensures.full c.records-test.false in
    let full = c.reads_more.ensures.at_capacity c.records-test.false in
    let fits = (so_far.fits page).0 in
    decodes_records g.D.RecordDecoder.kind c.args.counts_all c.args.input.now c.args.perf_file.now c.args.entries.now c.args.frames.now c.records.count c.records.used c.records.input c.records.perf_file c.records.entries c.records.frames c.records.invariant.so_far c.records.input c.records.perf_file c.records.entries c.records.frames c.position.result Full c.walk_end-2.result c.walk_end-2.ensures c.position.ensures refl refl (page, omega (arith, full, same, fits, counted))
