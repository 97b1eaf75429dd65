use Rattle.std.proofs.Common.{◌-◌, refl, subst, Ok, arith, inl, inr}
use Rattle.perfdata_jit.proofs.RecordHeaders.{not_skipped}
use Rattle.perfdata_jit.proofs.Steps.{skips_over, buffered_checked, buffered_after}
use Rattle.perfdata_jit.proofs.KeptBytes.{skipped_if, unskipped_if}
use Rattle.perfdata_jit.specs.steps.HeaderSteps.{PeeksValidHeader}
use Rattle.perfdata_jit.proofs.jitdump_reader.JitDumpReader.skip_next_record.Goals as goal

pub returns-in_err-header-clause-buffered : goal.returns-in_err-header-clause-buffered
returns-in_err-header-clause-buffered g c = λ whole found. absurd (buffered_checked g.R.Source.state c.args.self.now c.peek_valid_header.new.self _ whole found c.in_err-header.ensures.peeks_header)

pub returns-then-is_skipped-clause-skips : goal.returns-then-is_skipped-clause-skips
returns-then-is_skipped-clause-skips g c =
    let state = g.R.Source.state in
    let mid = c.peek_valid_header.new.self in
    let header = c.in-Some.header in
    let peeked = subst (λ o. PeeksValidHeader state c.args.self.now (Ok o) mid) c.in-Some.is c.in_ok-header.ensures.peeks_header in
    let skipped = skipped_if state (header.total_size - 16) mid.reader c.skip_bytes.new.self c.in_ok-is_skipped.is_skipped c.if-is_skipped.true c.in_ok-is_skipped.ensures.skips in
    skips_over state c.args.self.now mid _ header peeked skipped refl refl refl refl

pub returns-then-is_skipped-clause-buffered : goal.returns-then-is_skipped-clause-buffered
returns-then-is_skipped-clause-buffered g c = λ whole found.
    let state = g.R.Source.state in
    let mid = c.peek_valid_header.new.self in
    let header = c.in-Some.header in
    let peeked = subst (λ o. PeeksValidHeader state c.args.self.now (Ok o) mid) c.in-Some.is c.in_ok-header.ensures.peeks_header in
    let skipped = skipped_if state (header.total_size - 16) mid.reader c.skip_bytes.new.self c.in_ok-is_skipped.is_skipped c.if-is_skipped.true c.in_ok-is_skipped.ensures.skips in
    let over = skips_over state c.args.self.now mid _ header peeked skipped refl refl refl refl in
    record { returns_true = refl; source_unchanged = over.source_unchanged whole }

pub returns-else-is_skipped-clause-skips : goal.returns-else-is_skipped-clause-skips
returns-else-is_skipped-clause-skips g c =
    let state = g.R.Source.state in
    let mid = c.peek_valid_header.new.self in
    let header = c.in-Some.header in
    let peeked = subst (λ o. PeeksValidHeader state c.args.self.now (Ok o) mid) c.in-Some.is c.in_ok-header.ensures.peeks_header in
    let kept = unskipped_if state (header.total_size - 16) mid.reader c.skip_bytes.new.self c.in_ok-is_skipped.is_skipped c.if-is_skipped.false c.in_ok-is_skipped.ensures.skips in
    inr (not_skipped state c.args.self.now mid _ header peeked kept refl refl (record { header = refl; same_endian = refl; ring_capacity = kept.ring_capacity }))

pub returns-else-is_skipped-clause-no_whole_record : goal.returns-else-is_skipped-clause-no_whole_record
returns-else-is_skipped-clause-no_whole_record g c = λ _.
    let state = g.R.Source.state in
    let mid = c.peek_valid_header.new.self in
    let header = c.in-Some.header in
    let peeked = subst (λ o. PeeksValidHeader state c.args.self.now (Ok o) mid) c.in-Some.is c.in_ok-header.ensures.peeks_header in
    let kept = unskipped_if state (header.total_size - 16) mid.reader c.skip_bytes.new.self c.in_ok-is_skipped.is_skipped c.if-is_skipped.false c.in_ok-is_skipped.ensures.skips in
    (not_skipped state c.args.self.now mid _ header peeked kept refl refl (record { header = refl; same_endian = refl; ring_capacity = kept.ring_capacity })).no_whole_record

pub returns-else-is_skipped-clause-buffered : goal.returns-else-is_skipped-clause-buffered
returns-else-is_skipped-clause-buffered g c = λ whole found.
    let state = g.R.Source.state in
    let mid = c.peek_valid_header.new.self in
    let header = c.in-Some.header in
    let peeked = subst (λ o. PeeksValidHeader state c.args.self.now (Ok o) mid) c.in-Some.is c.in_ok-header.ensures.peeks_header in
    let kept = unskipped_if state (header.total_size - 16) mid.reader c.skip_bytes.new.self c.in_ok-is_skipped.is_skipped c.if-is_skipped.false c.in_ok-is_skipped.ensures.skips in
    let there = buffered_after state c.args.self.now mid header peeked whole in
    absurd (omega (arith, kept.too_few, there.0))

pub returns-in_err-is_skipped-clause-buffered : goal.returns-in_err-is_skipped-clause-buffered
returns-in_err-is_skipped-clause-buffered g c = λ whole found.
    let state = g.R.Source.state in
    let mid = c.peek_valid_header.new.self in
    let header = c.in-Some.header in
    let peeked = subst (λ o. PeeksValidHeader state c.args.self.now (Ok o) mid) c.in-Some.is c.in_ok-header.ensures.peeks_header in
    let there = buffered_after state c.args.self.now mid header peeked whole in
    let ok = peeked.header_peeked.keeps_position.seek_ok_after in
    elim c.in_err-is_skipped.ensures.skips [ inl failed ↦ absurd (omega (arith, failed.too_few, there.0)) | inr gone ↦ let seek_lost = gone.seek_failed in absurd cc ]
