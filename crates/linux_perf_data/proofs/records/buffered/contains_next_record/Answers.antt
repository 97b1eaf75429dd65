use Rattle.std.proofs.Common.{rules, arith, ◌≡◌, ◌≢◌, ◌+◌, take, drop, refl, sym, ap, ◌∙◌, subst, length-drop, None, Some}
use Rattle.std.proofs.Math.Seq.{take-add}
use Rattle.std.proofs.lemmas.Bool.{false≢true}
use Rattle.std.proofs.lemmas.List.{drop-drop, length-take-le}
use Rattle.perfdata_sections.specs.RecordTypes.{finished_round}
use Rattle.linux_perf_data.specs.BufferedRecord.{ContainsNextRecord}
use Rattle.linux_perf_data.specs.steps.BufferedRecord.{PeeksWholeRecord, WholeRecordLength}
use Rattle.linux_perf_data.specs.RecordInput.{section_size_in}
use Rattle.linux_perf_data.specs.Layout.{ConsistsOfMarkers, MayStartAt, record_type_of}
use Rattle.linux_perf_data.proofs.BufferedRecords.{front_record_type, shows_after, shows_here, starts}
use Rattle.linux_perf_data.proofs.IterCalls.{markers_more, markers_none}
use Rattle.linux_perf_data.proofs.records.buffered.contains_next_record.Goals as goal

pub records-init : goal.records-init
records-init c =
    let z : c.args.offset ≡ c.args.offset + 0 = omega arith in
    record { within = omega arith; markers = markers_none _ _ _; remaining = λ s. subst (λ k. ContainsNextRecord c.args.endian (section_size_in c.args.input) k c.args.bytes.now) z s }

pub records-preserved : goal.records-preserved
records-preserved c =
    let order = c.args.endian in
    let bound = section_size_in c.args.input in
    let bytes = c.args.bytes.now in
    let position = c.records.position in
    let before = c.records.invariant in
    let n = c.in-Some.length in
    let peeked : PeeksWholeRecord order (drop position bytes) (Some (c.in-Some.header, n)) = subst (λ r. PeeksWholeRecord order r (Some (c.in-Some.header, n))) c.from_offset-rest.ensures (subst (λ r. PeeksWholeRecord order c.from_offset-rest.result.now r) c.in-Some.is c.peek_record.ensures) in
    let w = peeked.1 in
    let begins : MayStartAt bound (c.args.offset + position) = search rules in
    let kind : record_type_of order (drop position bytes) ≡ finished_round = sym (ap (λ h. h.type_) peeked.0) ∙ c.if-header-ne-PERF_RECORD_FINISHED_ROUND.false in
    let here = subst (λ k. MayStartAt bound (c.args.offset + k)) (sym (length-take-le position bytes before.within)) begins in
    record {
      within = (let i = before.within in let k = w.1 in omega (arith, i, k, length-drop position bytes));
      markers = subst (λ l. ConsistsOfMarkers order bound c.args.offset l) (sym (take-add position n bytes))
          (markers_more order bound c.args.offset (take position bytes) (take n (drop position bytes)) before.markers here w.2 (sym (front_record_type order n (drop position bytes) w) ∙ kind));
      remaining = λ s. shows_after order bound c.args.offset position n bytes (before.remaining s) w kind (drop-drop n position bytes);
    }

pub records-smaller : goal.records-smaller
records-smaller c =
    let order = c.args.endian in
    let bound = section_size_in c.args.input in
    let bytes = c.args.bytes.now in
    let position = c.records.position in
    let before = c.records.invariant in
    let n = c.in-Some.length in
    let peeked : PeeksWholeRecord order (drop position bytes) (Some (c.in-Some.header, n)) = subst (λ r. PeeksWholeRecord order r (Some (c.in-Some.header, n))) c.from_offset-rest.ensures (subst (λ r. PeeksWholeRecord order c.from_offset-rest.result.now r) c.in-Some.is c.peek_record.ensures) in
    let w = peeked.1 in
    let i = before.within in
    let k = w.0 in
    let m = w.1 in
    omega (arith, i, k, m, length-drop position bytes)

pub returns-then-header-ne-PERF_RECORD_FINISHED_ROUND : goal.returns-then-header-ne-PERF_RECORD_FINISHED_ROUND
returns-then-header-ne-PERF_RECORD_FINISHED_ROUND c =
    let order = c.args.endian in
    let bound = section_size_in c.args.input in
    let bytes = c.args.bytes.now in
    let position = c.records.position in
    let before = c.records.invariant in
    let n = c.in-Some.length in
    let peeked : PeeksWholeRecord order (drop position bytes) (Some (c.in-Some.header, n)) = subst (λ r. PeeksWholeRecord order r (Some (c.in-Some.header, n))) c.from_offset-rest.ensures (subst (λ r. PeeksWholeRecord order c.from_offset-rest.result.now r) c.in-Some.is c.peek_record.ensures) in
    let w = peeked.1 in
    let begins : MayStartAt bound (c.args.offset + position) = search rules in
    let other : record_type_of order (drop position bytes) ≢ finished_round = λ is. c.if-header-ne-PERF_RECORD_FINISHED_ROUND.true (ap (λ h. h.type_) peeked.0 ∙ is) in
    (λ _. shows_here order bound c.args.offset position n bytes before.markers before.within begins w other, λ _. refl)

pub returns-in-None : goal.returns-in-None
returns-in-None c =
    let order = c.args.endian in
    let bound = section_size_in c.args.input in
    let bytes = c.args.bytes.now in
    let position = c.records.position in
    let before = c.records.invariant in
    let none : WholeRecordLength order (drop position bytes) None = subst (λ r. WholeRecordLength order r None) c.from_offset-rest.ensures (subst (λ r. PeeksWholeRecord order c.from_offset-rest.result.now r) c.in-None.is c.peek_record.ensures) in
    (λ h. absurd (false≢true h), λ s. let first = starts order bound (c.args.offset + position) (drop position bytes) (before.remaining s) in absurd (none first.first_part first.suffix first.is_record first.cut))

pub returns : goal.returns
returns c =
    let order = c.args.endian in
    let bound = section_size_in c.args.input in
    let bytes = c.args.bytes.now in
    let position = c.records.position in
    let before = c.records.invariant in
    let over : ¬ MayStartAt bound (c.args.offset + position) = search rules in
    (λ h. absurd (false≢true h), λ s. absurd (over (starts order bound (c.args.offset + position) (drop position bytes) (before.remaining s)).begins))
