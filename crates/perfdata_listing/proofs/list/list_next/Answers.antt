use Rattle.std.proofs.Common.{Ok, ap, ◌∙◌, subst, inl, inr}
use Rattle.std.proofs.KnownBytes.{Keeps-refl}
use Rattle.linux_perf_data.specs.RecordViews.{record_view_of}
use Rattle.linux_perf_data.specs.Iter.{NextRecord}
use Rattle.perfdata_listing.proofs.list.list_next.Goals as goal

pub returns-in-Ok : goal.returns-in-Ok
returns-in-Ok g c =
    let rested = c.next_record.follows.lender-at-none in
    let nexts = subst (λ r. NextRecord g.R.Source.state g.R.Source.loan c.args.records.now c.args.perf_file.now r rested c.next_record.new.perf_file) (c.in-Ok-Some.is ∙ ap Ok c.in-Ok-Some.field-0-is) c.next_record.follows.holds-at-none in
    (record_view_of c.in-Ok-Some.place c.in-Ok-Some.record, nexts.0, c.in-Ok.ensures)

pub returns-in-Err-write_record : goal.returns-in-Err-write_record
returns-in-Err-write_record g c =
    let rested = c.next_record.follows.lender-at-none in
    let nexts = subst (λ r. NextRecord g.R.Source.state g.R.Source.loan c.args.records.now c.args.perf_file.now r rested c.next_record.new.perf_file) (c.in-Ok-Some.is ∙ ap Ok c.in-Ok-Some.field-0-is) c.next_record.follows.holds-at-none in
    inr (record_view_of c.in-Ok-Some.place c.in-Ok-Some.record, nexts.0, c.in-Err-write_record.ensures)

pub returns-in-Ok-None : goal.returns-in-Ok-None
returns-in-Ok-None g c =
    let rested = c.next_record.follows.lender-at-none in
    let nexts = subst (λ r. NextRecord g.R.Source.state g.R.Source.loan c.args.records.now c.args.perf_file.now r rested c.next_record.new.perf_file) (c.in-Ok-None.is ∙ ap Ok c.in-Ok-None.field-0-is) c.next_record.follows.holds-at-none in
    (nexts.0, Keeps-refl _)

pub returns-in-Err : goal.returns-in-Err
returns-in-Err g c =
    let rested = c.next_record.follows.lender-at-none in
    let nexts = subst (λ r. NextRecord g.R.Source.state g.R.Source.loan c.args.records.now c.args.perf_file.now r rested c.next_record.new.perf_file) c.in-Err.is c.next_record.follows.holds-at-none in
    inl (nexts.0, Keeps-refl _)
