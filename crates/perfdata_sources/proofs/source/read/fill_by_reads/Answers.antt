use Rattle.std.proofs.Common.{arith, refl, ◌∙◌, ◌-◌, ◌<◌, ◌≤◌, length, take, drop, length-take, length-drop}
use Rattle.perfdata_sources.proofs.ConsumedLemmas.{consumed_none, consumed_more, consumed_no_more, none_read, failed_later, consumed_none_later, prefix_and_part, length-refilled}
use Rattle.std.proofs.lemmas.List.{length-take-le}
use Rattle.std.proofs.lemmas.Slice.{take-put_mid_below}
use Rattle.perfdata_sources.proofs.source.read.fill_by_reads.Goals as goal

pub loop-filled-init : goal.loop-filled-init
loop-filled-init g c = record { within = omega arith; tries = omega arith; filled_part = consumed_none _; pauses = refl; same_loan = refl }

pub loop-filled-preserved-in-Ok : goal.loop-filled-preserved-in-Ok
loop-filled-preserved-in-Ok g c =
    let before = c.loop-filled.invariant in
    let within : c.loop-filled.filled ≤ length c.loop-filled.buf = before.within in
    let asked : 0 < length (take (length c.loop-filled.buf - c.loop-filled.filled) (drop c.loop-filled.filled c.loop-filled.buf)) =
    omega (arith, length-take (length c.loop-filled.buf - c.loop-filled.filled) (drop c.loop-filled.filled c.loop-filled.buf), length-drop c.loop-filled.filled c.loop-filled.buf) in
    let read = c.in-Ok.ensures.reads asked in
    let same = c.read_front.auto.place in
    let long = length-refilled c.loop-filled.filled c.loop-filled.buf c.read_front.new.place within same in
    let shown = prefix_and_part c.loop-filled.filled (length c.loop-filled.buf - c.loop-filled.filled) c.in-Ok.count c.loop-filled.buf c.read_front.new.place within read.within in
    record {
      within = omega (arith, read.within, long, same, length-take (length c.loop-filled.buf - c.loop-filled.filled) (drop c.loop-filled.filled c.loop-filled.buf), length-drop c.loop-filled.filled c.loop-filled.buf);
      tries = omega arith;
      filled_part = rw shown (consumed_more _ _ _ _ _ before.filled_part read.consumes);
      pauses = c.in-Ok.ensures.counts.1 (omega arith) ∙ before.pauses;
      same_loan = c.in-Ok.ensures.same_loan ∙ before.same_loan;
    }

pub returns-then-repeats-eq-MAX_INTERRUPTED_RETRIES-clause-fills : goal.returns-then-repeats-eq-MAX_INTERRUPTED_RETRIES-clause-fills
returns-then-repeats-eq-MAX_INTERRUPTED_RETRIES-clause-fills g c =
    let before = c.loop-filled.invariant in
    let within : c.loop-filled.filled ≤ length c.loop-filled.buf = before.within in
    let asked : 0 < length (take (length c.loop-filled.buf - c.loop-filled.filled) (drop c.loop-filled.filled c.loop-filled.buf)) =
    omega (arith, length-take (length c.loop-filled.buf - c.loop-filled.filled) (drop c.loop-filled.filled c.loop-filled.buf), length-drop c.loop-filled.filled c.loop-filled.buf) in
    let read = c.in-Err.ensures.reads asked in
    let same = c.read_front.auto.place in
    let long = length-refilled c.loop-filled.filled c.loop-filled.buf c.read_front.new.place within same in
    let prefix = take c.loop-filled.filled c.loop-filled.buf in
    let short = length-take-le c.loop-filled.filled c.loop-filled.buf within in
    (record { consumed_bytes = prefix; too_few = omega (arith, short, long); consumes = consumed_no_more _ _ _ _ before.filled_part read.0 }, failed_later _ _ _ _ before.filled_part read.1)

pub returns-in-Ok-eq0-clause-fills : goal.returns-in-Ok-eq0-clause-fills
returns-in-Ok-eq0-clause-fills g c =
    let before = c.loop-filled.invariant in
    let within : c.loop-filled.filled ≤ length c.loop-filled.buf = before.within in
    let asked : 0 < length (take (length c.loop-filled.buf - c.loop-filled.filled) (drop c.loop-filled.filled c.loop-filled.buf)) =
    omega (arith, length-take (length c.loop-filled.buf - c.loop-filled.filled) (drop c.loop-filled.filled c.loop-filled.buf), length-drop c.loop-filled.filled c.loop-filled.buf) in
    let read = c.in-Ok-eq0.ensures.reads asked in
    let same = c.read_front.auto.place in
    let long = length-refilled c.loop-filled.filled c.loop-filled.buf c.read_front.new.place within same in
    let prefix = take-put_mid_below c.loop-filled.filled (length c.loop-filled.buf - c.loop-filled.filled) c.loop-filled.buf c.read_front.new.place c.loop-filled.filled (omega arith) within in
    record { within = omega (arith, long); consumes = rw prefix (none_read _ _ _ _ _ _ c.in-Ok-eq0.field-0-test before.filled_part read.consumes); if_incomplete = λ _. consumed_none_later _ _ _ _ before.filled_part (read.if_empty c.in-Ok-eq0.field-0-test) }
