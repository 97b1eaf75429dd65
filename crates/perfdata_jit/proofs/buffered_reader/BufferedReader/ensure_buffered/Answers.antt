use Rattle.std.proofs.Common.{◌<◌, ◌++◌, refl, arith, ap, ◌∙◌, length, length-append}
use Rattle.perfdata_sources.proofs.ConsumedLemmas.{consumed_none_later}
use Rattle.perfdata_jit.specs.BufferedReader.{buffered_in}
use Rattle.perfdata_jit.proofs.KeptBytes.{keeps_more}
use Rattle.perfdata_jit.proofs.buffered_reader.BufferedReader.ensure_buffered.Goals as goal

pub returns-then-read_count-eq0-clause-buffers : goal.returns-then-read_count-eq0-clause-buffers
returns-then-read_count-eq0-clause-buffers g c =
    let at = c.reads.invariant in
    let read = c.in_ok-read_count.ensures in
    let fill = read.fills in
    let free = c.make_free_space.ensures in
    let none = c.if-read_count-eq0.true in
    let buffered : length (buffered_in c.reads.self) < c.args.count = omega (arith, c.reads-test.true, c.len-in-reads.ensures) in
    let same = ap length free.bytes in
    let all = ap length fill.buffer_content ∙ length-append _ fill.consumed_bytes in
    record {
      keeps_bytes = keeps_more g.R.Source.state c.args.self.now c.reads.self _ fill.consumed_bytes at.keeps fill.consumes (fill.buffer_content ∙ ap (λ l. l ++ fill.consumed_bytes) free.bytes) (read.size ∙ free.size) refl;
      reads_only_needed = record {
        overflow_bound = λ _. omega (arith, read.overflow, free.overflow, buffered);
        no_growth_if_buffered = λ le. absurd (omega (arith, c.if-count-len.false, c.len.ensures));
        no_growth_if_fits = λ le. omega (arith, at.fits le, read.overflow, free.fits (omega (arith, buffered, le, at.keeps.ring_capacity)));
        no_allocation_if_fits = λ le. read.overflow_capacity ∙ free.no_allocation (omega (arith, buffered, le, at.keeps.ring_capacity)) ∙ at.same_capacity le;
        source_unchanged = λ le. absurd (omega (arith, c.if-count-len.false, c.len.ensures));
      };
      too_few = omega (arith, all, same, fill.exact_len, none, buffered);
      ended_or_paused = consumed_none_later _ _ _ at.keeps.consumed_bytes at.keeps.consumes (fill.if_empty none);
      at_most_one_pause = let once = read.counts.2 in let before = at.counts.pauses in omega (arith, once, before);
      errors = read.counts.0 ∙ at.counts.errors;
    }

pub reads-preserved : goal.reads-preserved
reads-preserved g c =
    let at = c.reads.invariant in
    let read = c.in_ok-read_count.ensures in
    let fill = read.fills in
    let free = c.make_free_space.ensures in
    let too_few : length (buffered_in c.reads.self) < c.args.count = omega (arith, c.reads-test.true, c.len-in-reads.ensures) in
    record {
      keeps = keeps_more g.R.Source.state c.args.self.now c.reads.self _ fill.consumed_bytes at.keeps fill.consumes (fill.buffer_content ∙ ap (λ l. l ++ fill.consumed_bytes) free.bytes) (read.size ∙ free.size) refl;
      counts = record { errors = read.counts.0 ∙ at.counts.errors; pauses = read.counts.1 (omega (arith, c.if-read_count-eq0.false)) ∙ at.counts.pauses };
      overflow_compact = read.overflow_start ∙ free.overflow_start;
      overflow = omega (arith, read.overflow, free.overflow, too_few);
      fits = λ le. omega (arith, at.fits le, read.overflow, free.fits (omega (arith, too_few, le, at.keeps.ring_capacity)));
      same_capacity = λ le. read.overflow_capacity ∙ free.no_allocation (omega (arith, too_few, le, at.keeps.ring_capacity)) ∙ at.same_capacity le;
      same_loan = read.same_loan ∙ at.same_loan;
    }
