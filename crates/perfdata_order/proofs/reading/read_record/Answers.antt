use Rattle.std.proofs.Common.{Some, Ok, sym, ap, ◌∙◌, subst}
use Rattle.std.proofs.lemmas.Result.{err_from_is_err_and}
use Rattle.perfdata_sources.specs.Raw.{bytes_of}
use Rattle.linux_perf_data.specs.Items.{NextItem, ReturnsNextRecord}
use Rattle.perfdata_order.specs.HeldRecord.{view_with}
use Rattle.perfdata_order.specs.steps.Reading.{ReadsRecord}
use Rattle.perfdata_order.proofs.ReadRecords.{record_read, copy_failed}
use Rattle.perfdata_order.proofs.reading.read_record.Goals as goal

pub returns-in_err-hold_or_copy-in-Some-Record : goal.returns-in_err-hold_or_copy-in-Some-Record
returns-in_err-hold_or_copy-in-Some-Record g c =
    let state = g.R.Source.state in
    let old = c.args.records.now in
    let file = c.args.perf_file.now in
    let new = c.next_item.follows.lender-at-none in
    let file' = c.next_item.new.perf_file in
    let item = subst (λ r. NextItem state g.R.Source.loan old file r new file') (c.in_ok-place.was ∙ ap Ok (c.in-Some-Record.is ∙ ap Some c.in-Some-Record.field-0-is)) c.next_item.follows.holds-at-none in
    let view = ap (λ b. view_with c.from_record-envelope.result (bytes_of b)) c.body.ensures ∙ c.from_record-envelope.ensures in
    let returned = subst (λ v. ReturnsNextRecord state old file v new file') (sym view) item.0 in
    let p = err_from_is_err_and c.from_residual-in_err-hold_or_copy-in-Some-Record.result c.from_residual-in_err-hold_or_copy-in-Some-Record.ensures.1 in
    subst (λ r. ReadsRecord state old file c.args.held.now c.args.last_round r c.hold_or_copy.new.copy.items c.hold_or_copy.new.held new file') (sym p.1)
    (copy_failed state old new file file' c.args.held.now c.hold_or_copy.new.held c.args.last_round c.from_record-envelope.result (bytes_of c.body.result) c.hold_or_copy.new.copy.items p.0 p.2 returned c.in_err-hold_or_copy-in-Some-Record.ensures)

pub returns-in_ok-hold_or_copy-in-Some-Record : goal.returns-in_ok-hold_or_copy-in-Some-Record
returns-in_ok-hold_or_copy-in-Some-Record g c =
    let state = g.R.Source.state in
    let old = c.args.records.now in
    let file = c.args.perf_file.now in
    let new = c.next_item.follows.lender-at-none in
    let file' = c.next_item.new.perf_file in
    let item = subst (λ r. NextItem state g.R.Source.loan old file r new file') (c.in_ok-place.was ∙ ap Ok (c.in-Some-Record.is ∙ ap Some c.in-Some-Record.field-0-is)) c.next_item.follows.holds-at-none in
    let view = ap (λ b. view_with c.from_record-envelope.result (bytes_of b)) c.body.ensures ∙ c.from_record-envelope.ensures in
    let returned = subst (λ v. ReturnsNextRecord state old file v new file') (sym view) item.0 in
    record_read state old new file file' c.args.held.now c.hold_or_copy.new.held c.args.last_round c.from_record-envelope.result (bytes_of c.body.result) c.hold_or_copy.new.copy.items c.in_ok-hold_or_copy-in-Some-Record.field-0 returned c.in_ok-hold_or_copy-in-Some-Record.ensures
