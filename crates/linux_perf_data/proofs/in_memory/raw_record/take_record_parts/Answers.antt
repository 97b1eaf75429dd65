use Rattle.std.proofs.Common.{None, Some, ◌++◌, [], length, rules, refl, ap, sym, subst}
use Rattle.std.proofs.lemmas.Result.{err_from_is_err_and}
use Rattle.perfdata_sections.specs.Error.{IsUnexpectedEof}
use Rattle.perfdata_sections.specs.declared.error.Error.TheVariants.{Read}
use Rattle.perfdata_sections.specs.declared.error.ReadError.TheVariants.{PerfEventData}
use Rattle.linux_perf_data.specs.RecordInput.{input_source_state}
use Rattle.linux_perf_data.specs.Iter.{section_size_of, iter_source_state}
use Rattle.linux_perf_data.specs.steps.RecordFraming.{RecordTruncatedAt, RecordErrorAt}
use Rattle.linux_perf_data.specs.InMemory.{memory_state}
use Rattle.linux_perf_data.proofs.RecordReads.{header_truncated, header_short, header_error, not_header_memory, pass_truncated, pass_short, content_truncated, content_short, content_error, marker_whole, content_whole, after_header}
use Rattle.linux_perf_data.proofs.SourceViews.{header_some, header_none, pass_true, pass_false, skipped_in, ended_in, content_in, ended_content_in, no_content_in}
use Rattle.linux_perf_data.proofs.InMemoryCalls.{body_taken, buffer_of, unexpected_not_memory, truncated_consumed}
use Rattle.linux_perf_data.proofs.in_memory.raw_record.take_record_parts.Goals as goal

pub returns-in_err-header_and_end-clause-raw_record : goal.returns-in_err-header_and_end-clause-raw_record
returns-in_err-header_and_end-clause-raw_record c =
    let p = err_from_is_err_and c.from_residual.result c.from_residual.ensures.1 in
    let it = c.args.records.now in
    let pending = c.read_header.ensures.pending_header in
    let input = c.read_header.new.input in
    let a = iter_source_state memory_state it in
    let b = input_source_state input (memory_state c.read_header.new.source) in
    rw (p.1, p.2) (
      not_header_memory it.endian a b it.offset _ c.in_err-header_and_end.ensures.header,
      record {
        error = header_error it.endian a b (section_size_of memory_state it) it.offset _ _ (ap length c.requires) c.in_err-header_and_end.ensures.header;
        offset = refl;
        round = refl;
        same_input = record { same_endian = refl; section_size = pending.section_size };
        attribute_lookup = refl;
        no_pending_header = pending.no_pending_header;
      },
    )

pub returns-in-None-clause-raw_record : goal.returns-in-None-clause-raw_record
returns-in-None-clause-raw_record c =
    let it = c.args.records.now in
    let pending = c.read_header.ensures.pending_header in
    let input = c.read_header.new.input in
    let a = iter_source_state memory_state it in
    let b = input_source_state input (memory_state c.read_header.new.source) in
    let ended = header_none it.endian it.offset a b _ c.in-None.is c.in_ok-header_and_end.ensures.header in
    let empty = ap length c.requires in
    let short : IsUnexpectedEof c.from.result = subst IsUnexpectedEof (sym c.from.ensures) c.unexpected_eof.ensures in
    truncated_consumed it _ c.from.result c.end_or_error.result c.end_or_error.ensures (unexpected_not_memory _ short) (record { same_endian = refl; section_size = pending.section_size }) refl refl refl pending.no_pending_header
    (λ pipe. header_truncated it.endian a b it.offset _ empty ended)
    (λ file. header_short it.endian a b (section_size_of memory_state it) it.offset _ c.from.result file empty short ended)

pub returns-then-not-skip_bytes-clause-raw_record : goal.returns-then-not-skip_bytes-clause-raw_record
returns-then-not-skip_bytes-clause-raw_record c =
    let it = c.args.records.now in
    let pending = c.read_header.ensures.pending_header in
    let input = c.read_header.new.input in
    let a = iter_source_state memory_state it in
    let b = input_source_state input (memory_state c.read_header.new.source) in
    let d = input_source_state input (memory_state c.skip_bytes.new.source) in
    let start = header_some it.endian it.offset a b _ c.in-Some.header_and_end c.in-Some.is c.in_ok-header_and_end.ensures.header in
    let t = start.0 in
    let truncated = pass_false (memory_state c.read_header.new.source) (memory_state c.skip_bytes.new.source) _ _ c.if-not-skip_bytes.true c.skip_bytes.ensures in
    let ended = ended_in input pending.no_pending_header (memory_state c.read_header.new.source) (memory_state c.skip_bytes.new.source) _ truncated in
    let empty = ap length c.requires in
    truncated_consumed it _ _ c.end_or_error-then-not-skip_bytes.result c.end_or_error-then-not-skip_bytes.ensures (λ m. cc) (record { same_endian = refl; section_size = pending.section_size }) refl refl refl pending.no_pending_header
    (λ pipe. pass_truncated it.endian a b d it.offset _ _ c.in-Some.header_and_end.0 empty t start.1 ended)
    (λ file. pass_short it.endian a b d (section_size_of memory_state it) it.offset _ _ c.in-Some.header_and_end.0 _ file empty refl t start.1 ended)

pub returns-then-header-eq-PERF_RECORD_FINISHED_ROUND-clause-raw_record : goal.returns-then-header-eq-PERF_RECORD_FINISHED_ROUND-clause-raw_record
returns-then-header-eq-PERF_RECORD_FINISHED_ROUND-clause-raw_record c =
    let it = c.args.records.now in
    let pending = c.read_header.ensures.pending_header in
    let input = c.read_header.new.input in
    let a = iter_source_state memory_state it in
    let b = input_source_state input (memory_state c.read_header.new.source) in
    let d = input_source_state input (memory_state c.skip_bytes.new.source) in
    let start = header_some it.endian it.offset a b _ c.in-Some.header_and_end c.in-Some.is c.in_ok-header_and_end.ensures.header in
    let t = start.0 in
    let skipped = pass_true (memory_state c.read_header.new.source) (memory_state c.skip_bytes.new.source) _ _ c.if-not-skip_bytes.false c.skip_bytes.ensures in
    let skipped' = skipped_in input pending.no_pending_header (memory_state c.read_header.new.source) (memory_state c.skip_bytes.new.source) _ skipped in
    let marker = c.if-header-eq-PERF_RECORD_FINISHED_ROUND.true in
    let w = marker_whole it.endian a b d it.offset _ c.in-Some.header_and_end.0 marker t start.1 skipped' in (
      marker,
      record {
        raw_record = t.bytes ++ skipped'.bytes;
        consumes = w.consumption;
        is_record = w.is_record;
        record_type = w.kind;
        misc = w.misc;
        offset = w.ends;
        offset_fits = w.fits;
        round = search rules;
        buffered_body = λ other. absurd (other marker);
        empty_if_marker = λ _. c.requires;
        same_input = record { same_endian = refl; section_size = pending.section_size };
        attribute_lookup = refl;
        stage = refl;
        no_pending_header = pending.no_pending_header;
      },
    )

pub returns-in-Some-2-clause-raw_record : goal.returns-in-Some-2-clause-raw_record
returns-in-Some-2-clause-raw_record c =
    let it = c.args.records.now in
    let pending = c.read_header.ensures.pending_header in
    let input = c.read_header.new.input in
    let a = iter_source_state memory_state it in
    let b = input_source_state input (memory_state c.read_header.new.source) in
    let d = input_source_state input (memory_state c.take_record_body.new.source) in
    let start = header_some it.endian it.offset a b _ c.in-Some.header_and_end c.in-Some.is c.in_ok-header_and_end.ensures.header in
    let t = start.0 in
    let now = c.in-Some-2.body.now in
    let end = c.in-Some-2.end in
    let consumed_bytes = body_taken _ _ _ _ _ _ (Some (c.in-Some-2.body, end)) c.in-Some-2.is c.in_ok-body.ensures in
    let w = content_whole it.endian a b d it.offset _ end c.in-Some.header_and_end.0 now t start.1 (content_in input pending.no_pending_header (memory_state c.read_header.new.source) (memory_state c.take_record_body.new.source) it.endian c.in-Some.header_and_end.0 _ end now consumed_bytes.1) in
    record {
      not_marker = c.if-header-eq-PERF_RECORD_FINISHED_ROUND.false;
      buffer = buffer_of it.body now consumed_bytes.0;
      buffered_body = refl;
      raw_record_read = record {
        raw_record = t.bytes ++ now;
        consumes = w.consumption;
        is_record = w.is_record;
        record_type = w.kind;
        misc = w.misc;
        offset = w.ends;
        offset_fits = w.fits;
        round = search rules;
        buffered_body = λ _. sym (after_header t.bytes now t.exact_len);
        empty_if_marker = λ marker. absurd (c.if-header-eq-PERF_RECORD_FINISHED_ROUND.false marker);
        same_input = record { same_endian = refl; section_size = pending.section_size };
        attribute_lookup = refl;
        stage = refl;
        no_pending_header = pending.no_pending_header;
      };
    }

pub returns-in-None-2-clause-raw_record : goal.returns-in-None-2-clause-raw_record
returns-in-None-2-clause-raw_record c =
    let it = c.args.records.now in
    let pending = c.read_header.ensures.pending_header in
    let input = c.read_header.new.input in
    let a = iter_source_state memory_state it in
    let b = input_source_state input (memory_state c.read_header.new.source) in
    let d = input_source_state input (memory_state c.take_record_body.new.source) in
    let start = header_some it.endian it.offset a b _ c.in-Some.header_and_end c.in-Some.is c.in_ok-header_and_end.ensures.header in
    let t = start.0 in
    let empty = ap length c.requires in
    let ended = ended_content_in input pending.no_pending_header (memory_state c.read_header.new.source) (memory_state c.take_record_body.new.source) c.in-Some.header_and_end.0 [] (body_taken _ _ _ _ _ _ None c.in-None-2.is c.in_ok-body.ensures) in
    truncated_consumed it _ (Read PerfEventData) c.end_or_error-in-None-2.result c.end_or_error-in-None-2.ensures (λ m. cc) (record { same_endian = refl; section_size = pending.section_size }) refl refl refl pending.no_pending_header
    (λ pipe. subst (λ n. RecordTruncatedAt it.endian a it.offset n d) (sym empty) (content_truncated it.endian a b d it.offset _ c.in-Some.header_and_end.0 [] t start.1 ended))
    (λ file. subst (λ n. RecordErrorAt it.endian a (section_size_of memory_state it) it.offset (Read PerfEventData) n d) (sym empty) (content_short it.endian a b d (section_size_of memory_state it) it.offset _ c.in-Some.header_and_end.0 (Read PerfEventData) [] file refl t start.1 ended))

pub returns-in_err-body-clause-raw_record : goal.returns-in_err-body-clause-raw_record
returns-in_err-body-clause-raw_record c =
    let p = err_from_is_err_and c.from_residual-in_err-body.result c.from_residual-in_err-body.ensures.1 in
    let it = c.args.records.now in
    let pending = c.read_header.ensures.pending_header in
    let input = c.read_header.new.input in
    let a = iter_source_state memory_state it in
    let b = input_source_state input (memory_state c.read_header.new.source) in
    let d = input_source_state input (memory_state c.take_record_body.new.source) in
    let start = header_some it.endian it.offset a b _ c.in-Some.header_and_end c.in-Some.is c.in_ok-header_and_end.ensures.header in
    let t = start.0 in
    let empty = ap length c.requires in
    let consumed_bytes = c.in_err-body.ensures in
    rw (p.1, p.2) (
      consumed_bytes.0,
      record {
        error = subst (λ n. RecordErrorAt it.endian a (section_size_of memory_state it) it.offset c.in_err-body.field-0.0 n d) (sym empty) (content_error it.endian a b d (section_size_of memory_state it) it.offset _ c.in-Some.header_and_end.0 _ [] c.if-header-eq-PERF_RECORD_FINISHED_ROUND.false t start.1
            (no_content_in input pending.no_pending_header (memory_state c.read_header.new.source) (memory_state c.take_record_body.new.source) it.endian c.in-Some.header_and_end.0 _ _ [] consumed_bytes.1));
        offset = refl;
        round = refl;
        same_input = record { same_endian = refl; section_size = pending.section_size };
        attribute_lookup = refl;
        no_pending_header = pending.no_pending_header;
      },
    )
