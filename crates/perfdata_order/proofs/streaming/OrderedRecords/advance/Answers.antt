use Rattle.std.proofs.Common.{◌≡◌, ◌<◌, ◌≤◌, ap, ◌∙◌, [], sym, subst, inr}
use Rattle.perfdata_order.specs.HeldRecord.{view_with}
use Rattle.perfdata_order.specs.StreamingOrder.{Progress, KeepsSorter, unplaced_of, body_in}
use Rattle.perfdata_order.specs.steps.StreamingOrder.{IsOngoing}
use Rattle.perfdata_order.specs.Sorter.{held_of, available_of}
use Rattle.perfdata_order.specs.StreamingOrder.Unplaced.{ending}
use Rattle.perfdata_order.specs.declared.streaming.BodyBuffer.TheVariants.{Read, Sorted}
use Rattle.perfdata_order.proofs.StreamingCalls.{no_progress, progress_read, progress_places, progress_kept, progress_unread, sorted_returned, untimed_returned, untimed_in_round, none_pending_at, none_held_after, end_returned, error_returned, work_of, work_falls}
use Rattle.perfdata_order.proofs.streaming.OrderedRecords.advance.Goals as goal

pub returns-in-Some : goal.returns-in-Some
returns-in-Some g c =
    let state = g.R.Source.state in
    let old = c.args.self.now in
    let file = c.args.perf_file.now in
    sorted_returned state old old c.take_sorted.new.self file file c.in-Some.ensures.0 c.in-Some.ensures.1.0 (view_with c.in-Some.envelope (body_in Sorted c.take_sorted.new.self)) (no_progress state old file) c.in-Some.ensures.1.1 c.in-Some.ensures.1.2

pub reads-init : goal.reads-init
reads-init g c =
    let state = g.R.Source.state in
    let old = c.args.self.now in
    let file = c.args.perf_file.now in
    (progress_kept state old old c.take_sorted.new.self file file (no_progress state old file) c.in-None.ensures.1, c.in-None.ensures.1.unchanged.available ∙ c.in-None.ensures.0)

pub returns-in-Err : goal.returns-in-Err
returns-in-Err g c =
    let unread = c.in-Err.ensures c.reads.invariant.1 in
    inr (inr (c.from.ensures, progress_unread g.R.Source.state c.args.self.now c.reads.self c.read.new.self c.args.perf_file.now c.reads.perf_file c.read.new.perf_file c.reads.invariant.0 unread.0 unread.1))

pub returns-in-Err-insert_pending : goal.returns-in-Err-insert_pending
returns-in-Err-insert_pending g c =
    let state = g.R.Source.state in
    let pending = c.in-Ok.ensures c.reads.invariant.1 in
    let read = progress_read state c.args.self.now c.reads.self c.read.new.self c.args.perf_file.now c.reads.perf_file c.read.new.perf_file c.reads.invariant.0 pending in
    inr (inr (c.from-in-Err-insert_pending.ensures, progress_places state c.args.self.now c.read.new.self c.insert_pending.new.self c.args.perf_file.now c.read.new.perf_file read c.in-Err-insert_pending.ensures))

pub returns-in-Some-take_sorted : goal.returns-in-Some-take_sorted
returns-in-Some-take_sorted g c =
    let state = g.R.Source.state in
    let pending = c.in-Ok.ensures c.reads.invariant.1 in
    let read = progress_read state c.args.self.now c.reads.self c.read.new.self c.args.perf_file.now c.reads.perf_file c.read.new.perf_file c.reads.invariant.0 pending in
    let before = progress_places state c.args.self.now c.read.new.self c.insert_pending.new.self c.args.perf_file.now c.read.new.perf_file read c.in-Ok-insert_pending.ensures.0 in
    let new = c.take_sorted-in-reads.new.self in
    sorted_returned state c.args.self.now c.insert_pending.new.self new c.args.perf_file.now c.read.new.perf_file c.in-Some-take_sorted.ensures.0 c.in-Some-take_sorted.ensures.1.0
    (view_with c.in-Some-take_sorted.envelope (body_in Sorted new)) before c.in-Some-take_sorted.ensures.1.1 c.in-Some-take_sorted.ensures.1.2

pub returns-in-Some-take_untimed : goal.returns-in-Some-take_untimed
returns-in-Some-take_untimed g c =
    let state = g.R.Source.state in
    let placed = c.insert_pending.new.self in
    let kept = c.take_sorted-in-reads.new.self in
    let new = c.take_untimed.new.self in
    let pending = c.in-Ok.ensures c.reads.invariant.1 in
    let read = progress_read state c.args.self.now c.reads.self c.read.new.self c.args.perf_file.now c.reads.perf_file c.read.new.perf_file c.reads.invariant.0 pending in
    let before = progress_places state c.args.self.now c.read.new.self placed c.args.perf_file.now c.read.new.perf_file read c.in-Ok-insert_pending.ensures.0 in
    let none = c.in-None-take_sorted.ensures in
    let after = progress_kept state c.args.self.now placed kept c.args.perf_file.now c.read.new.perf_file before none.1 in
    let taken = c.in-Some-take_untimed.ensures in
    let view = view_with c.in-Some-take_untimed.untimed (body_in Read new) in
    untimed_returned state c.args.self.now kept new c.args.perf_file.now c.read.new.perf_file view after (record {
      was_pending = taken.0;
      in_round = subst (λ n. view.round ≤ n) (sym none.1.round) (untimed_in_round state (unplaced_of c.read.new.self) placed view c.in-Ok-insert_pending.ensures.1 (sym none.1.pending ∙ taken.0));
      none_available = none.1.unchanged.available ∙ none.0;
      pending = taken.1;
      same_records = taken.2;
      same_order = taken.3;
    })

pub returns-in-Some-Ok : goal.returns-in-Some-Ok
returns-in-Some-Ok g c =
    let state = g.R.Source.state in
    let placed = c.insert_pending.new.self in
    let kept = c.take_sorted-in-reads.new.self in
    let pending = c.in-Ok.ensures c.reads.invariant.1 in
    let read = progress_read state c.args.self.now c.reads.self c.read.new.self c.args.perf_file.now c.reads.perf_file c.read.new.perf_file c.reads.invariant.0 pending in
    let before = progress_places state c.args.self.now c.read.new.self placed c.args.perf_file.now c.read.new.perf_file read c.in-Ok-insert_pending.ensures.0 in
    let none = c.in-None-take_sorted.ensures in
    let after_take = progress_kept state c.args.self.now placed kept c.args.perf_file.now c.read.new.perf_file before none.1 in
    let same = c.in-None-take_untimed.ensures.0 in
    let after = subst (λ s. Progress state c.args.self.now c.args.perf_file.now s c.read.new.perf_file) (sym same) after_take in
    let untaken = c.take_untimed.new.self in
    let taken = rw c.in-Some-Ok.field-0-is at c.in-Some-Ok.ensures in
    end_returned state c.args.self.now untaken c.take_end.new.self c.args.perf_file.now c.read.new.perf_file after taken.0 taken.1
    (ap (λ s. held_of s.held.sorter) same ∙ none_held_after state placed.held.sorter kept.held.sorter none.0 none.1.unchanged
    (none_pending_at state (unplaced_of c.read.new.self) ending placed c.in-Ok-insert_pending.ensures.1 tt (sym none.1.pending ∙ sym (ap (λ s. unplaced_of s) same) ∙ taken.1)))

pub returns-in-Some-Err : goal.returns-in-Some-Err
returns-in-Some-Err g c =
    let state = g.R.Source.state in
    let placed = c.insert_pending.new.self in
    let kept = c.take_sorted-in-reads.new.self in
    let pending = c.in-Ok.ensures c.reads.invariant.1 in
    let read = progress_read state c.args.self.now c.reads.self c.read.new.self c.args.perf_file.now c.reads.perf_file c.read.new.perf_file c.reads.invariant.0 pending in
    let before = progress_places state c.args.self.now c.read.new.self placed c.args.perf_file.now c.read.new.perf_file read c.in-Ok-insert_pending.ensures.0 in
    let none = c.in-None-take_sorted.ensures in
    let after_take = progress_kept state c.args.self.now placed kept c.args.perf_file.now c.read.new.perf_file before none.1 in
    let same = c.in-None-take_untimed.ensures.0 in
    let after = subst (λ s. Progress state c.args.self.now c.args.perf_file.now s c.read.new.perf_file) (sym same) after_take in
    let untaken = c.take_untimed.new.self in
    let taken = rw c.in-Some-Err.field-0-is at c.in-Some-Err.ensures in
    error_returned state c.args.self.now placed untaken c.take_end.new.self c.args.perf_file.now c.read.new.perf_file (unplaced_of c.read.new.self) c.in-Some-Err.error after c.in-Ok-insert_pending.ensures.1 none.0 (subst (λ s. KeepsSorter placed s) (sym same) none.1) taken

pub reads-preserved : goal.reads-preserved
reads-preserved g c =
    let state = g.R.Source.state in
    let placed = c.insert_pending.new.self in
    let kept = c.take_sorted-in-reads.new.self in
    let pending = c.in-Ok.ensures c.reads.invariant.1 in
    let read = progress_read state c.args.self.now c.reads.self c.read.new.self c.args.perf_file.now c.reads.perf_file c.read.new.perf_file c.reads.invariant.0 pending in
    let before = progress_places state c.args.self.now c.read.new.self placed c.args.perf_file.now c.read.new.perf_file read c.in-Ok-insert_pending.ensures.0 in
    let none = c.in-None-take_sorted.ensures in
    let after_take = progress_kept state c.args.self.now placed kept c.args.perf_file.now c.read.new.perf_file before none.1 in
    let same = c.in-None-take_untimed.ensures.0 in
    let available : available_of kept.held.sorter ≡ [] = none.1.unchanged.available ∙ none.0 in
    let last = c.in-None-take_end.ensures.0 ∙ same in
    subst (λ s. Progress state c.args.self.now c.args.perf_file.now s c.read.new.perf_file × (available_of s.held.sorter ≡ [])) (sym last) (after_take, available)

pub reads-smaller : goal.reads-smaller
reads-smaller g c =
    let state = g.R.Source.state in
    let kept = c.take_sorted-in-reads.new.self in
    let same = c.in-None-take_untimed.ensures.0 in
    let ongoing = subst (λ s. IsOngoing (unplaced_of s)) same c.in-None-take_end.ensures.1 in
    let falls = work_falls state c.reads.self c.read.new.self c.insert_pending.new.self kept c.reads.perf_file c.read.new.perf_file (c.in-Ok.ensures c.reads.invariant.1) c.in-Ok-insert_pending.ensures.1 c.in-Ok-insert_pending.ensures.2 c.in-None-take_sorted.ensures.0 c.in-None-take_sorted.ensures.1 c.in-None-take_untimed.ensures.1 ongoing in
    subst (λ s. work_of state s < work_of state c.reads.self) (sym (c.in-None-take_end.ensures.0 ∙ same)) falls
