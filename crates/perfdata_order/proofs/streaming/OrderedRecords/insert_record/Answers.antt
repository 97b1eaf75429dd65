use Rattle.std.proofs.Common.{◌≡◌, ◌+◌, ◌^◌, ◌<◌, length, Some, Ok, refl, sym, ap, ◌∙◌, subst}
use Rattle.perfdata_order.specs.declared.streaming.PendingStep.TheVariants.{Nothing}
use Rattle.perfdata_order.specs.HeldRecord.{view_with, held_view, held_size}
use Rattle.perfdata_order.specs.StreamingOrder.{unplaced_by, AdmitsPending}
use Rattle.perfdata_order.proofs.StreamingCalls.{with_parts, with_held, places_kept, available_placed, body_read, record_placed, bytes_added}
use Rattle.perfdata_order.proofs.streaming.OrderedRecords.insert_record.Goals as goal

pub returns-in-Err : goal.returns-in-Err
returns-in-Err g c =
    let old = c.args.self.now in
    let view = view_with c.args.envelope old.body.items in
    let was = ap (λ p. unplaced_by p old.body.items) c.requires in
    let size : held_size view ≡ c.held_size-size.result = ap (λ n. n + 192) (sym old.body.ok.0 ∙ sym c.len.ensures) ∙ sym c.held_size-size.ensures in
    c.in-Err.ensures c.args.key view was refl size

pub returns-in-Ok-false : goal.returns-in-Ok-false
returns-in-Ok-false g c =
    let state = g.R.Source.state in
    let old = c.args.self.now in
    let view = view_with c.args.envelope old.body.items in
    let was = ap (λ p. unplaced_by p old.body.items) c.requires in
    let size : held_size view ≡ c.held_size-size.result = ap (λ n. n + 192) (sym old.body.ok.0 ∙ sym c.len.ensures) ∙ sym c.held_size-size.ensures in
    available_placed state old c.admit_pending.new.self c.args.key view was (subst (λ b. AdmitsPending state old view (Ok b) c.admit_pending.new.self) c.in-Ok-false.field-0-test (c.in-Ok-false.ensures c.args.key view was refl size))

pub returns-in-Ok : goal.returns-in-Ok
returns-in-Ok g c =
    let state = g.R.Source.state in
    let old = c.args.self.now in
    let made = c.admit_pending.new.self in
    let view = view_with c.args.envelope old.body.items in
    let was = ap (λ p. unplaced_by p old.body.items) c.requires in
    let size : held_size view ≡ c.held_size-size.result = ap (λ n. n + 192) (sym old.body.ok.0 ∙ sym c.len.ensures) ∙ sym c.held_size-size.ensures in
    let admission = subst (λ b. AdmitsPending state old view (Ok b) made) c.in-Ok-true.field-0-test (c.in-Ok-true.ensures c.args.key view was refl size) in
    let done = c.in-Ok.ensures in
    let copied = done.1.1 ∙ ap (λ b. view_with c.args.envelope b) c.as_slice.ensures.value in
    let now = body_read made.pending made.body.items (Some c.args.key) view (admission.pending ∙ was) in
    let sizes = ap (λ h. held_size h) copied ∙ ap (λ b. length b + 192) now ∙ size in
    record_placed state old made (with_parts made c.insert.new.self Nothing c.saturating_add-self.result) c.args.key c.args.envelope done.0 was admission
    copied done.1.0 refl refl refl refl refl (subst (λ n. n < 2 ^ 64) (sym sizes) c.held_size-size.type_inv) (bytes_added made.held_bytes c.held_size-size.result (held_size (held_view done.0)) c.saturating_add-self.result sizes c.saturating_add-self.ensures)

pub returns-in-Err-insert : goal.returns-in-Err-insert
returns-in-Err-insert g c =
    let state = g.R.Source.state in
    let old = c.args.self.now in
    let made = c.admit_pending.new.self in
    let view = view_with c.args.envelope old.body.items in
    let was = ap (λ p. unplaced_by p old.body.items) c.requires in
    let size : held_size view ≡ c.held_size-size.result = ap (λ n. n + 192) (sym old.body.ok.0 ∙ sym c.len.ensures) ∙ sym c.held_size-size.ensures in
    let admission = subst (λ b. AdmitsPending state old view (Ok b) made) c.in-Ok-true.field-0-test (c.in-Ok-true.ensures c.args.key view was refl size) in
    places_kept state old made (with_held made c.insert.new.self) admission.places
    (record { unchanged = c.in-Err-insert.ensures; pending = refl; same_records = refl; round = refl; same_budget = record { budget = refl; held_bytes = refl; early = refl } })
