use Rattle.std.proofs.Common.{◌-◌, ◌≤◌, arith}
use Rattle.perfdata_sources.specs.Source.{AfterSeek}
use Rattle.perfdata_sources.proofs.ReadErrors.{after_seek_more}
use Rattle.linux_perf_data.proofs.UnfinishedRecords.{header_at, aux_at, step_below_header, step_in_body, step_plain, step_below_auxtrace, step_in_aux_data, step_traced}
use Rattle.linux_perf_data.proofs.file.unfinished.record_step.Goals as goal

pub returns-then-size-lt-HEADER_SIZE-clause-reads : goal.returns-then-size-lt-HEADER_SIZE-clause-reads
returns-then-size-lt-HEADER_SIZE-clause-reads g c =
    let left = c.saturating_sub-left.ensures in
    let enough = c.if-left-lt-HEADER_SIZE.false in
    let fits : 8 ≤ c.args.length - c.args.offset = omega (arith, left, enough) in
    let header = c.from_bytes-header.result in
    let read = c.in_ok-read_word.ensures.reads in
    let seen = header_at c.args.endian _ _ c.args.offset c.args.length _ header c.requires fits read c.from_bytes-header.ensures in
    step_below_header c.args.endian _ _ c.args.offset c.args.length header seen read.0 fits c.if-size-lt-HEADER_SIZE.true

pub returns-then-left-size-clause-reads : goal.returns-then-left-size-clause-reads
returns-then-left-size-clause-reads g c =
    let left = c.saturating_sub-left.ensures in
    let enough = c.if-left-lt-HEADER_SIZE.false in
    let few = c.if-left-size.true in
    let fits : 8 ≤ c.args.length - c.args.offset = omega (arith, left, enough) in
    let header = c.from_bytes-header.result in
    let read = c.in_ok-read_word.ensures.reads in
    let seen = header_at c.args.endian _ _ c.args.offset c.args.length _ header c.requires fits read c.from_bytes-header.ensures in
    step_in_body c.args.endian _ _ c.args.offset c.args.length header seen read.0 c.if-size-lt-HEADER_SIZE.false (omega (arith, left, few))

pub returns-then-header-ne-PERF_RECORD_AUXTRACE-clause-reads : goal.returns-then-header-ne-PERF_RECORD_AUXTRACE-clause-reads
returns-then-header-ne-PERF_RECORD_AUXTRACE-clause-reads g c =
    let left = c.saturating_sub-left.ensures in
    let enough = c.if-left-lt-HEADER_SIZE.false in
    let inside = c.if-left-size.false in
    let fits : 8 ≤ c.args.length - c.args.offset = omega (arith, left, enough) in
    let header = c.from_bytes-header.result in
    let read = c.in_ok-read_word.ensures.reads in
    let seen = header_at c.args.endian _ _ c.args.offset c.args.length _ header c.requires fits read c.from_bytes-header.ensures in
    step_plain c.args.endian _ _ c.args.offset c.args.length header seen read.0 c.if-size-lt-HEADER_SIZE.false (omega (arith, left, inside)) c.if-header-ne-PERF_RECORD_AUXTRACE.true

pub returns-then-size-lt-AUXTRACE_SIZE-clause-reads : goal.returns-then-size-lt-AUXTRACE_SIZE-clause-reads
returns-then-size-lt-AUXTRACE_SIZE-clause-reads g c =
    let left = c.saturating_sub-left.ensures in
    let enough = c.if-left-lt-HEADER_SIZE.false in
    let inside = c.if-left-size.false in
    let fits : 8 ≤ c.args.length - c.args.offset = omega (arith, left, enough) in
    let header = c.from_bytes-header.result in
    let read = c.in_ok-read_word.ensures.reads in
    let seen = header_at c.args.endian _ _ c.args.offset c.args.length _ header c.requires fits read c.from_bytes-header.ensures in
    step_below_auxtrace c.args.endian _ _ c.args.offset c.args.length header seen read.0 c.if-size-lt-HEADER_SIZE.false (omega (arith, left, inside)) c.if-header-ne-PERF_RECORD_AUXTRACE.false c.if-size-lt-AUXTRACE_SIZE.true

pub returns-then-left-size-2-clause-reads : goal.returns-then-left-size-2-clause-reads
returns-then-left-size-2-clause-reads g c =
    let state = g.C.Source.state in
    let left = c.saturating_sub-left.ensures in
    let enough = c.if-left-lt-HEADER_SIZE.false in
    let inside = c.if-left-size.false in
    let least = c.if-size-lt-AUXTRACE_SIZE.false in
    let few = c.if-left-size-2.true in
    let fits : 8 ≤ c.args.length - c.args.offset = omega (arith, left, enough) in
    let fits_aux : 16 ≤ c.args.length - c.args.offset = omega (arith, left, inside, least) in
    let header = c.from_bytes-header.result in
    let aux = c.read_u64-aux_size.result in
    let read = c.in_ok-read_word.ensures.reads in
    let later = c.in_ok-read_word-2.ensures.reads in
    let seen = header_at c.args.endian _ _ c.args.offset c.args.length _ header c.requires fits read c.from_bytes-header.ensures in
    let aux_seen = aux_at c.args.endian _ _ _ c.args.offset c.args.length aux _ fits_aux read.0 later c.read_u64-aux_size.ensures in
    let seek : AfterSeek (state c.args.source.now) (state c.read_word-2.new.source) = after_seek_more _ _ _ read.0 later.0 in
    step_in_aux_data c.args.endian _ _ c.args.offset c.args.length header aux seen aux_seen seek least (omega (arith, left, inside)) c.if-header-ne-PERF_RECORD_AUXTRACE.false (omega (arith, left, inside, few))

pub returns-clause-reads : goal.returns-clause-reads
returns-clause-reads g c =
    let state = g.C.Source.state in
    let left = c.saturating_sub-left.ensures in
    let enough = c.if-left-lt-HEADER_SIZE.false in
    let inside = c.if-left-size.false in
    let least = c.if-size-lt-AUXTRACE_SIZE.false in
    let whole = c.if-left-size-2.false in
    let fits : 8 ≤ c.args.length - c.args.offset = omega (arith, left, enough) in
    let fits_aux : 16 ≤ c.args.length - c.args.offset = omega (arith, left, inside, least) in
    let header = c.from_bytes-header.result in
    let aux = c.read_u64-aux_size.result in
    let read = c.in_ok-read_word.ensures.reads in
    let later = c.in_ok-read_word-2.ensures.reads in
    let seen = header_at c.args.endian _ _ c.args.offset c.args.length _ header c.requires fits read c.from_bytes-header.ensures in
    let aux_seen = aux_at c.args.endian _ _ _ c.args.offset c.args.length aux _ fits_aux read.0 later c.read_u64-aux_size.ensures in
    let seek : AfterSeek (state c.args.source.now) (state c.read_word-2.new.source) = after_seek_more _ _ _ read.0 later.0 in
    step_traced c.args.endian _ _ c.args.offset c.args.length header aux seen aux_seen seek least (omega (arith, left, inside)) c.if-header-ne-PERF_RECORD_AUXTRACE.false (omega (arith, left, inside, whole))
