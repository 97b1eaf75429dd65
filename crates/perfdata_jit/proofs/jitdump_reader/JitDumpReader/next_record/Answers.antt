use Rattle.std.proofs.Common.{refl, ap, ◌∙◌, subst, Ok}
use Rattle.perfdata_jit.proofs.Steps.{returns_record}
use Rattle.perfdata_jit.specs.steps.HeaderSteps.{BuffersRecord}
use Rattle.perfdata_jit.proofs.jitdump_reader.JitDumpReader.next_record.Goals as goal

-- the header is pending and its body is buffered, and thus the consumed bytes are those of the body
pub returns : goal.returns
returns g c =
    let state = g.R.Source.state in
    let mid = c.buffer_record.new.self in
    let header = c.in-Some.header in
    let buffered = subst (λ o. BuffersRecord state c.args.self.now (Ok o) mid) c.in-Some.is c.in_ok-header.ensures.buffers_record in
    let body = c.consume_buffered-body in (
      (
        refl,
        λ _. tt,
        (returns_record state c.args.self.now mid _ header _ buffered body.follows.holds-at-none body.ensures.part body.ensures.single refl refl refl refl refl refl refl refl refl, ap g.R.Source.loan body.follows.holds-at-none.source ∙ c.in_ok-header.ensures.same_loan),
      ),
      record { after_borrow = tt },
    )
