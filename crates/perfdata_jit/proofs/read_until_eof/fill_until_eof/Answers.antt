use Rattle.std.proofs.Common.{arith, refl, ◌∙◌, ◌-◌, ◌<◌, ◌≤◌, length, take, drop, length-take, length-drop}
use Rattle.perfdata_sources.proofs.ConsumedLemmas.{consumed_none, consumed_more, consumed_no_more, none_read, failed_later, consumed_none_later, prefix_and_part, length-refilled}
use Rattle.std.proofs.lemmas.Result.{err_from_is_err_and}
use Rattle.std.proofs.lemmas.Slice.{take-put_mid_below}
use Rattle.perfdata_jit.proofs.read_until_eof.fill_until_eof.Goals as goal

pub reads-init : goal.reads-init
reads-init g c = record { within = omega arith; consumes = consumed_none _; counts = record { errors = refl; pauses = refl }; same_loan = refl }

pub reads-preserved : goal.reads-preserved
reads-preserved g c =
    let before = c.reads.invariant in
    let at = c.reads.filled in
    let buf = c.reads.buf in
    let within : at ≤ length buf = before.within in
    let asked : 0 < length (take (length buf - at) (drop at buf)) = omega (arith, length-take (length buf - at) (drop at buf), length-drop at buf) in
    let read = c.in_ok-read_count.ensures.reads asked in
    let same = c.read_front.auto.place in
    let long = length-refilled at buf c.read_front.new.place within same in
    let visible = prefix_and_part at (length buf - at) c.in_ok-read_count.read_count buf c.read_front.new.place within read.within in
    record {
      within = omega (arith, read.within, long, same, length-take (length buf - at) (drop at buf), length-drop at buf);
      consumes = rw visible (consumed_more _ _ _ _ _ before.consumes read.consumes);
      counts = record { errors = c.in_ok-read_count.ensures.counts.0 ∙ before.counts.errors; pauses = c.in_ok-read_count.ensures.counts.1 (omega (arith, c.if-read_count-eq0.false)) ∙ before.counts.pauses };
      same_loan = c.in_ok-read_count.ensures.same_loan ∙ before.same_loan;
    }

pub returns-then-read_count-eq0-clause-fills : goal.returns-then-read_count-eq0-clause-fills
returns-then-read_count-eq0-clause-fills g c =
    let before = c.reads.invariant in
    let at = c.reads.filled in
    let buf = c.reads.buf in
    let within : at ≤ length buf = before.within in
    let asked : 0 < length (take (length buf - at) (drop at buf)) = omega (arith, length-take (length buf - at) (drop at buf), length-drop at buf) in
    let read = c.in_ok-read_count.ensures.reads asked in
    let long = length-refilled at buf c.read_front.new.place within c.read_front.auto.place in
    let prefix = take-put_mid_below at (length buf - at) buf c.read_front.new.place at (omega arith) within in
    record { within = omega (arith, long); consumes = rw prefix (none_read _ _ _ _ _ _ c.if-read_count-eq0.true before.consumes read.consumes); if_incomplete = λ _. consumed_none_later _ _ _ _ before.consumes (read.if_empty c.if-read_count-eq0.true) }

pub returns-then-read_count-eq0-clause-counts : goal.returns-then-read_count-eq0-clause-counts
returns-then-read_count-eq0-clause-counts g c =
    let before = c.reads.invariant in
    let within : c.reads.filled ≤ length c.reads.buf = before.within in
    let long = length-refilled c.reads.filled c.reads.buf c.read_front.new.place within c.read_front.auto.place in
    (c.in_ok-read_count.ensures.counts.0 ∙ before.counts.errors, λ all. absurd (omega (arith, long, all, c.reads-test.true)), let once = c.in_ok-read_count.ensures.counts.2 in let before = before.counts.pauses in omega (arith, once, before))

pub returns-in_err-read_count-clause-fills : goal.returns-in_err-read_count-clause-fills
returns-in_err-read_count-clause-fills g c =
    let before = c.reads.invariant in
    let at = c.reads.filled in
    let buf = c.reads.buf in
    let within : at ≤ length buf = before.within in
    let asked : 0 < length (take (length buf - at) (drop at buf)) = omega (arith, length-take (length buf - at) (drop at buf), length-drop at buf) in
    let read = c.in_err-read_count.ensures.reads asked in
    let long = length-refilled at buf c.read_front.new.place within c.read_front.auto.place in
    let prefix = take-put_mid_below at (length buf - at) buf c.read_front.new.place at (omega arith) within in
    let p = err_from_is_err_and c.from_residual.result c.from_residual.ensures.1 in
    rw p.1 (record { count = at; too_few = omega (arith, long); consumes = rw prefix (consumed_no_more _ _ _ _ before.consumes read.0); source_failed = failed_later _ _ _ _ before.consumes read.1 })
