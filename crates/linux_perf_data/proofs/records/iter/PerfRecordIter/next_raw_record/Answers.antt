use Rattle.std.proofs.Common.{◌++◌, length, rules, refl, ap, sym, subst, vec_capacity}
use Rattle.std.proofs.lemmas.Result.{err_from_is_err_and}
use Rattle.perfdata_sections.specs.Error.{IsUnexpectedEof}
use Rattle.linux_perf_data.specs.RecordInput.{input_source_state}
use Rattle.linux_perf_data.specs.Iter.{section_size_of, iter_source_state}
use Rattle.linux_perf_data.proofs.RecordReads.{not_short_memory, exceeds_rest, header_truncated, header_short, header_error, not_header_memory, pass_truncated, pass_short, pass_failed, content_truncated, content_short, content_error, marker_whole, content_whole, after_header}
use Rattle.linux_perf_data.proofs.TruncatedRecords.{record_truncated}
use Rattle.linux_perf_data.proofs.SourceViews.{truncation_memory, exceeds_in, header_some, header_none, pass_true, pass_false, content_some, content_none, skipped_in, ended_in, failed_part_in, content_in, ended_content_in, no_content_in}
use Rattle.linux_perf_data.proofs.records.iter.PerfRecordIter.next_raw_record.Goals as goal

pub returns-in_err-header_and_end-clause-raw_record : goal.returns-in_err-header_and_end-clause-raw_record
returns-in_err-header_and_end-clause-raw_record g c =
    let p = err_from_is_err_and c.from_residual.result c.from_residual.ensures.1 in
    let it = c.args.self.now in
    let state = g.R.Source.state in
    let pending = c.read_header.ensures.pending_header in
    let input = c.read_header.new.input in
    let a = iter_source_state state it in
    let b = input_source_state input (state c.read_header.new.source) in
    rw (p.1, p.2) (record {
      error = header_error it.endian a b (section_size_of state it) it.offset _ _ (ap length c.requires.empty) c.in_err-header_and_end.ensures.header;
      offset = refl;
      round = refl;
      same_input = record { same_endian = refl; section_size = pending.section_size };
      attribute_lookup = refl;
      no_pending_header = pending.no_pending_header;
    })

pub returns-in-None-clause-raw_record : goal.returns-in-None-clause-raw_record
returns-in-None-clause-raw_record g c =
    let it = c.args.self.now in
    let state = g.R.Source.state in
    let pending = c.read_header.ensures.pending_header in
    let input = c.read_header.new.input in
    let a = iter_source_state state it in
    let b = input_source_state input (state c.read_header.new.source) in
    let ended = header_none it.endian it.offset a b _ c.in-None.is c.in_ok-header_and_end.ensures.header in
    let empty = ap length c.requires.empty in
    let short : IsUnexpectedEof c.from.result = subst IsUnexpectedEof (sym c.from.ensures) c.unexpected_eof.ensures in
    record_truncated state it _ c.from.result c.at_truncation.result c.at_truncation.ensures (record { same_endian = refl; section_size = pending.section_size }) refl refl refl pending.no_pending_header
    (λ pipe. header_truncated it.endian a b it.offset _ empty ended)
    (λ file. header_short it.endian a b (section_size_of state it) it.offset _ c.from.result file empty short ended)

pub returns-then-not-branch-clause-raw_record : goal.returns-then-not-branch-clause-raw_record
returns-then-not-branch-clause-raw_record g c =
    let it = c.args.self.now in
    let state = g.R.Source.state in
    let pending = c.read_header.ensures.pending_header in
    let input = c.read_header.new.input in
    let a = iter_source_state state it in
    let b = input_source_state input (state c.read_header.new.source) in
    let d = input_source_state input (state c.skip_body.new.source) in
    let start = header_some it.endian it.offset a b _ c.in-Some.header_and_end c.in-Some.is c.in_ok-header_and_end.ensures.header in
    let t = start.0 in
    let truncated = pass_false (state c.read_header.new.source) (state c.skip_body.new.source) _ _ c.if-not-branch.true c.in_ok-skip_body.ensures.skips in
    let ended = ended_in input pending.no_pending_header (state c.read_header.new.source) (state c.skip_body.new.source) _ truncated in
    let empty = ap length c.requires.empty in
    record_truncated state it _ _ c.at_truncation-then-not-branch.result c.at_truncation-then-not-branch.ensures (record { same_endian = refl; section_size = pending.section_size }) refl refl refl pending.no_pending_header
    (λ pipe. pass_truncated it.endian a b d it.offset _ _ c.in-Some.header_and_end.0 empty t start.1 ended)
    (λ file. pass_short it.endian a b d (section_size_of state it) it.offset _ _ c.in-Some.header_and_end.0 _ file empty refl t start.1 ended)

pub returns-in_err-skip_body-clause-raw_record : goal.returns-in_err-skip_body-clause-raw_record
returns-in_err-skip_body-clause-raw_record g c =
    let p = err_from_is_err_and c.from_residual-in_err-skip_body.result c.from_residual-in_err-skip_body.ensures.1 in
    let it = c.args.self.now in
    let state = g.R.Source.state in
    let pending = c.read_header.ensures.pending_header in
    let input = c.read_header.new.input in
    let a = iter_source_state state it in
    let b = input_source_state input (state c.read_header.new.source) in
    let d = input_source_state input (state c.skip_body.new.source) in
    let start = header_some it.endian it.offset a b _ c.in-Some.header_and_end c.in-Some.is c.in_ok-header_and_end.ensures.header in
    let t = start.0 in
    let failed = c.in_err-skip_body.ensures.skips in
    rw (p.1, p.2) (record {
      error = pass_failed it.endian a b d (section_size_of state it) it.offset _ c.in-Some.header_and_end.0 _ (ap length c.requires.empty) t
          (failed.0, failed_part_in input pending.no_pending_header (state c.read_header.new.source) (state c.skip_body.new.source) _ failed.1);
      offset = refl;
      round = refl;
      same_input = record { same_endian = refl; section_size = pending.section_size };
      attribute_lookup = refl;
      no_pending_header = pending.no_pending_header;
    })

pub returns-then-header-eq-PERF_RECORD_FINISHED_ROUND-clause-raw_record : goal.returns-then-header-eq-PERF_RECORD_FINISHED_ROUND-clause-raw_record
returns-then-header-eq-PERF_RECORD_FINISHED_ROUND-clause-raw_record g c =
    let it = c.args.self.now in
    let state = g.R.Source.state in
    let pending = c.read_header.ensures.pending_header in
    let input = c.read_header.new.input in
    let a = iter_source_state state it in
    let b = input_source_state input (state c.read_header.new.source) in
    let d = input_source_state input (state c.skip_body.new.source) in
    let start = header_some it.endian it.offset a b _ c.in-Some.header_and_end c.in-Some.is c.in_ok-header_and_end.ensures.header in
    let t = start.0 in
    let skipped = pass_true (state c.read_header.new.source) (state c.skip_body.new.source) _ _ c.if-not-branch.false c.in_ok-skip_body.ensures.skips in
    let skipped' = skipped_in input pending.no_pending_header (state c.read_header.new.source) (state c.skip_body.new.source) _ skipped in
    let marker = c.if-header-eq-PERF_RECORD_FINISHED_ROUND.true in
    let w = marker_whole it.endian a b d it.offset _ c.in-Some.header_and_end.0 marker t start.1 skipped' in
    record {
      raw_record = t.bytes ++ skipped'.bytes;
      consumes = w.consumption;
      is_record = w.is_record;
      record_type = w.kind;
      misc = w.misc;
      offset = w.ends;
      offset_fits = w.fits;
      round = search rules;
      buffered_body = λ other. absurd (other marker);
      empty_if_marker = λ _. c.requires.empty;
      same_input = record { same_endian = refl; section_size = pending.section_size };
      attribute_lookup = refl;
      stage = refl;
      no_pending_header = pending.no_pending_header;
    }

pub returns-in-Some-2-clause-raw_record : goal.returns-in-Some-2-clause-raw_record
returns-in-Some-2-clause-raw_record g c =
    let it = c.args.self.now in
    let state = g.R.Source.state in
    let pending = c.read_header.ensures.pending_header in
    let input = c.read_header.new.input in
    let a = iter_source_state state it in
    let b = input_source_state input (state c.read_header.new.source) in
    let d = input_source_state input (state c.read_record_body.new.source) in
    let start = header_some it.endian it.offset a b _ c.in-Some.header_and_end c.in-Some.is c.in_ok-header_and_end.ensures.header in
    let t = start.0 in
    let now = c.read_record_body.new.body.items in
    let end = c.in-Some-2.end in
    let content = content_some it.endian (state c.read_header.new.source) (state c.read_record_body.new.source) c.in-Some.header_and_end.0 _ end now _ c.in-Some-2.is c.in_ok-end.ensures.reads in
    let w = content_whole it.endian a b d it.offset _ end c.in-Some.header_and_end.0 now t start.1 (content_in input pending.no_pending_header (state c.read_header.new.source) (state c.read_record_body.new.source) it.endian c.in-Some.header_and_end.0 _ end now content) in
    record {
      raw_record = t.bytes ++ now;
      consumes = w.consumption;
      is_record = w.is_record;
      record_type = w.kind;
      misc = w.misc;
      offset = w.ends;
      offset_fits = w.fits;
      round = search rules;
      buffered_body = λ _. sym (after_header t.bytes now t.exact_len);
      empty_if_marker = λ marker. absurd (c.if-header-eq-PERF_RECORD_FINISHED_ROUND.false marker);
      same_input = record { same_endian = refl; section_size = pending.section_size };
      attribute_lookup = refl;
      stage = refl;
      no_pending_header = pending.no_pending_header;
    }

pub returns-in-None-2-clause-raw_record : goal.returns-in-None-2-clause-raw_record
returns-in-None-2-clause-raw_record g c =
    let it = c.args.self.now in
    let state = g.R.Source.state in
    let pending = c.read_header.ensures.pending_header in
    let input = c.read_header.new.input in
    let a = iter_source_state state it in
    let b = input_source_state input (state c.read_header.new.source) in
    let d = input_source_state input (state c.read_record_body.new.source) in
    let start = header_some it.endian it.offset a b _ c.in-Some.header_and_end c.in-Some.is c.in_ok-header_and_end.ensures.header in
    let t = start.0 in
    let now = c.read_record_body.new.body.items in
    let ended = ended_content_in input pending.no_pending_header (state c.read_header.new.source) (state c.read_record_body.new.source) c.in-Some.header_and_end.0 now
    (content_none it.endian (state c.read_header.new.source) (state c.read_record_body.new.source) c.in-Some.header_and_end.0 _ now _ c.in-None-2.is c.in_ok-end.ensures.reads) in
    record_truncated state it _ _ c.at_truncation-in-None-2.result c.at_truncation-in-None-2.ensures (record { same_endian = refl; section_size = pending.section_size }) refl refl refl pending.no_pending_header
    (λ pipe. content_truncated it.endian a b d it.offset _ c.in-Some.header_and_end.0 now t start.1 ended)
    (λ file. content_short it.endian a b d (section_size_of state it) it.offset _ c.in-Some.header_and_end.0 _ now file refl t start.1 ended)

pub returns-in_err-end-clause-raw_record : goal.returns-in_err-end-clause-raw_record
returns-in_err-end-clause-raw_record g c =
    let p = err_from_is_err_and c.from_residual-in_err-end.result c.from_residual-in_err-end.ensures.1 in
    let it = c.args.self.now in
    let state = g.R.Source.state in
    let pending = c.read_header.ensures.pending_header in
    let input = c.read_header.new.input in
    let a = iter_source_state state it in
    let b = input_source_state input (state c.read_header.new.source) in
    let d = input_source_state input (state c.read_record_body.new.source) in
    let start = header_some it.endian it.offset a b _ c.in-Some.header_and_end c.in-Some.is c.in_ok-header_and_end.ensures.header in
    let t = start.0 in
    let now = c.read_record_body.new.body.items in
    rw (p.1, p.2) (record {
      error = content_error it.endian a b d (section_size_of state it) it.offset _ c.in-Some.header_and_end.0 _ now c.if-header-eq-PERF_RECORD_FINISHED_ROUND.false t start.1
          (no_content_in input pending.no_pending_header (state c.read_header.new.source) (state c.read_record_body.new.source) it.endian c.in-Some.header_and_end.0 _ _ now c.in_err-end.ensures.reads);
      offset = refl;
      round = refl;
      same_input = record { same_endian = refl; section_size = pending.section_size };
      attribute_lookup = refl;
      no_pending_header = pending.no_pending_header;
    })

pub returns-in_err-header_and_end-clause-memory_only_to_grow : goal.returns-in_err-header_and_end-clause-memory_only_to_grow
returns-in_err-header_and_end-clause-memory_only_to_grow g c = let p = err_from_is_err_and c.from_residual.result c.from_residual.ensures.1 in
    rw (p.1, p.2) (λ m. absurd (not_header_memory _ _ _ _ _ c.in_err-header_and_end.ensures.header m))

pub returns-in-None-clause-memory_only_to_grow : goal.returns-in-None-clause-memory_only_to_grow
returns-in-None-clause-memory_only_to_grow g c =
    let short : IsUnexpectedEof c.from.result = subst IsUnexpectedEof (sym c.from.ensures) c.unexpected_eof.ensures in
    truncation_memory _ c.from.result c.at_truncation.result _ c.at_truncation.ensures (not_short_memory c.from.result short)

pub returns-then-not-branch-clause-memory_only_to_grow : goal.returns-then-not-branch-clause-memory_only_to_grow
returns-then-not-branch-clause-memory_only_to_grow g c = truncation_memory _ _ c.at_truncation-then-not-branch.result _ c.at_truncation-then-not-branch.ensures (λ m. cc)

pub returns-in_err-skip_body-clause-memory_only_to_grow : goal.returns-in_err-skip_body-clause-memory_only_to_grow
returns-in_err-skip_body-clause-memory_only_to_grow g c = let p = err_from_is_err_and c.from_residual-in_err-skip_body.result c.from_residual-in_err-skip_body.ensures.1 in
    rw (p.1, p.2) (λ m. let is = c.in_err-skip_body.ensures.skips.0 in absurd cc)

pub returns-in-None-2-clause-memory_only_to_grow : goal.returns-in-None-2-clause-memory_only_to_grow
returns-in-None-2-clause-memory_only_to_grow g c = truncation_memory _ _ c.at_truncation-in-None-2.result _ c.at_truncation-in-None-2.ensures (λ m. cc)

pub returns-in_err-end-clause-memory_only_to_grow : goal.returns-in_err-end-clause-memory_only_to_grow
returns-in_err-end-clause-memory_only_to_grow g c =
    let p = err_from_is_err_and c.from_residual-in_err-end.result c.from_residual-in_err-end.ensures.1 in
    let it = c.args.self.now in
    let state = g.R.Source.state in
    let input = c.read_header.new.input in
    let a = iter_source_state state it in
    let b = input_source_state input (state c.read_header.new.source) in
    let d = input_source_state input (state c.read_record_body.new.source) in
    let start = header_some it.endian it.offset a b _ c.in-Some.header_and_end c.in-Some.is c.in_ok-header_and_end.ensures.header in
    let t = start.0 in
    rw (p.1, p.2) (λ m.
    let x = exceeds_in input c.read_header.ensures.pending_header.no_pending_header (state c.read_header.new.source) (state c.read_record_body.new.source) it.endian (vec_capacity it.body) c.in-Some.header_and_end.0 (c.in_err-end.ensures.memory_only_to_grow m) in
    let exceeds = exceeds_rest it.endian a b d c.in-Some.header_and_end.0 (vec_capacity it.body) t x in
    record { consumed_bytes = t.bytes ++ x.consumed_bytes; consumes = exceeds.0; exceeds = exceeds.1 })
