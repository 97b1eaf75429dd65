use Rattle.std.proofs.Common.{◌<◌, refl, sym, ap, ◌∙◌, subst, inl, inr}
use Rattle.perfdata_order.specs.declared.in_memory.InMemoryOrderedRecords.{InMemoryOrderedRecords}
use Rattle.perfdata_order.specs.InMemoryOrder.{Progress}
use Rattle.perfdata_order.specs.Sorter.{held_of}
use Rattle.perfdata_order.proofs.Steps.{no_progress, progress_read, progress_places, progress_kept, entry_sorted, entry_untimed, end_returned, none_pending_at_end, none_pending_at_failure, untimed_in_round, none_held_after, work_of, work_falls}
use Rattle.perfdata_order.proofs.in_memory.InMemoryOrderedRecords.next_record.Goals as goal

pub returns-in-Some : goal.returns-in-Some
returns-in-Some c =
    let old = c.args.self.now in
    let file = c.args.perf_file.now in
    let new : InMemoryOrderedRecords = record { records = old.records; sorter = c.get_next.new.self; round = old.round; pending = old.pending } in
    entry_sorted old old new file file c.in-Some.ensures.0 c.in-Some.next (no_progress old file) (record { returned = c.in-Some.ensures.1; pending = refl; same_records = refl; round = refl })

pub reads-init : goal.reads-init
reads-init c =
    let old = c.args.self.now in
    let file = c.args.perf_file.now in
    let new : InMemoryOrderedRecords = record { records = old.records; sorter = c.get_next.new.self; round = old.round; pending = old.pending } in
    progress_kept old old new file file (no_progress old file) (record { unchanged = c.in-None.ensures.1; pending = refl; same_records = refl; round = refl })

pub returns-in-Err : goal.returns-in-Err
returns-in-Err c =
    let read = progress_read c.args.self.now c.reads.self c.read.new.self c.args.perf_file.now c.reads.perf_file c.read.new.perf_file c.reads.invariant c.read.ensures in
    inr (c.from.ensures, progress_places c.args.self.now c.read.new.self c.insert_pending.new.self c.args.perf_file.now c.read.new.perf_file read c.in-Err.ensures)

pub returns-in-Some-get_next : goal.returns-in-Some-get_next
returns-in-Some-get_next c =
    let placed = c.insert_pending.new.self in
    let new : InMemoryOrderedRecords = record { records = placed.records; sorter = c.get_next-in-reads.new.self; round = placed.round; pending = placed.pending } in
    let read = progress_read c.args.self.now c.reads.self c.read.new.self c.args.perf_file.now c.reads.perf_file c.read.new.perf_file c.reads.invariant c.read.ensures in
    let before = progress_places c.args.self.now c.read.new.self placed c.args.perf_file.now c.read.new.perf_file read c.in-Ok.ensures.0 in
    entry_sorted c.args.self.now placed new c.args.perf_file.now c.read.new.perf_file c.in-Some-get_next.ensures.0 c.in-Some-get_next.next before
    (record { returned = c.in-Some-get_next.ensures.1; pending = refl; same_records = refl; round = refl })

pub returns-in-Some-take_untimed : goal.returns-in-Some-take_untimed
returns-in-Some-take_untimed c =
    let placed = c.insert_pending.new.self in
    let kept : InMemoryOrderedRecords = record { records = placed.records; sorter = c.get_next-in-reads.new.self; round = placed.round; pending = placed.pending } in
    let read = progress_read c.args.self.now c.reads.self c.read.new.self c.args.perf_file.now c.reads.perf_file c.read.new.perf_file c.reads.invariant c.read.ensures in
    let before = progress_places c.args.self.now c.read.new.self placed c.args.perf_file.now c.read.new.perf_file read c.in-Ok.ensures.0 in
    let after = progress_kept c.args.self.now placed kept c.args.perf_file.now c.read.new.perf_file before (record { unchanged = c.in-None-get_next.ensures.1; pending = refl; same_records = refl; round = refl }) in
    let entry = c.in-Some-take_untimed.untimed in
    let taken = c.in-Some-take_untimed.ensures in
    entry_untimed c.args.self.now kept c.take_untimed.new.self c.args.perf_file.now c.read.new.perf_file entry after (record {
      was_pending = taken.0;
      in_round = untimed_in_round c.read.new.self.pending placed entry.0 entry.1 c.in-Ok.ensures.1 taken.0;
      none_available = c.in-None-get_next.ensures.1.available ∙ c.in-None-get_next.ensures.0;
      pending = taken.1;
      same_records = taken.2;
      same_order = taken.3;
    })

pub returns-in-Some-Ok : goal.returns-in-Some-Ok
returns-in-Some-Ok c =
    let placed = c.insert_pending.new.self in
    let kept : InMemoryOrderedRecords = record { records = placed.records; sorter = c.get_next-in-reads.new.self; round = placed.round; pending = placed.pending } in
    let read = progress_read c.args.self.now c.reads.self c.read.new.self c.args.perf_file.now c.reads.perf_file c.read.new.perf_file c.reads.invariant c.read.ensures in
    let before = progress_places c.args.self.now c.read.new.self placed c.args.perf_file.now c.read.new.perf_file read c.in-Ok.ensures.0 in
    let after_get = progress_kept c.args.self.now placed kept c.args.perf_file.now c.read.new.perf_file before (record { unchanged = c.in-None-get_next.ensures.1; pending = refl; same_records = refl; round = refl }) in
    let same = c.in-None-take_untimed.ensures.0 in
    let after = subst (λ s. Progress c.args.self.now c.args.perf_file.now s c.read.new.perf_file) (sym same) after_get in
    let untaken = c.take_untimed.new.self in
    let taken = rw c.in-Some-Ok.field-0-is at c.in-Some-Ok.ensures in
    end_returned c.args.self.now untaken c.take_end.new.self c.args.perf_file.now c.read.new.perf_file after taken.0 taken.1
    (ap (λ s. held_of s.sorter) same ∙ none_held_after placed.sorter c.get_next-in-reads.new.self c.in-None-get_next.ensures.0 c.in-None-get_next.ensures.1
    (none_pending_at_end c.read.new.self.pending placed c.in-Ok.ensures.1 (sym (ap (λ s. s.pending) same) ∙ taken.1)))

pub returns-in-Some-Err : goal.returns-in-Some-Err
returns-in-Some-Err c =
    let placed = c.insert_pending.new.self in
    let kept : InMemoryOrderedRecords = record { records = placed.records; sorter = c.get_next-in-reads.new.self; round = placed.round; pending = placed.pending } in
    let read = progress_read c.args.self.now c.reads.self c.read.new.self c.args.perf_file.now c.reads.perf_file c.read.new.perf_file c.reads.invariant c.read.ensures in
    let before = progress_places c.args.self.now c.read.new.self placed c.args.perf_file.now c.read.new.perf_file read c.in-Ok.ensures.0 in
    let after_get = progress_kept c.args.self.now placed kept c.args.perf_file.now c.read.new.perf_file before (record { unchanged = c.in-None-get_next.ensures.1; pending = refl; same_records = refl; round = refl }) in
    let same = c.in-None-take_untimed.ensures.0 in
    let after = subst (λ s. Progress c.args.self.now c.args.perf_file.now s c.read.new.perf_file) (sym same) after_get in
    let untaken = c.take_untimed.new.self in
    let taken = rw c.in-Some-Err.field-0-is at c.in-Some-Err.ensures in
    inl (record {
      middle = untaken;
      before = after;
      reported = record {
        was_pending = taken.0;
        all_returned = ap (λ s. held_of s.sorter) same ∙ none_held_after placed.sorter c.get_next-in-reads.new.self c.in-None-get_next.ensures.0 c.in-None-get_next.ensures.1
            (none_pending_at_failure c.read.new.self.pending placed c.in-Some-Err.error c.in-Ok.ensures.1 (sym (ap (λ s. s.pending) same) ∙ taken.0));
        pending = taken.1;
        same_records = taken.2;
        same_order = taken.3;
      };
    })

pub reads-preserved : goal.reads-preserved
reads-preserved c =
    let placed = c.insert_pending.new.self in
    let kept : InMemoryOrderedRecords = record { records = placed.records; sorter = c.get_next-in-reads.new.self; round = placed.round; pending = placed.pending } in
    let read = progress_read c.args.self.now c.reads.self c.read.new.self c.args.perf_file.now c.reads.perf_file c.read.new.perf_file c.reads.invariant c.read.ensures in
    let before = progress_places c.args.self.now c.read.new.self placed c.args.perf_file.now c.read.new.perf_file read c.in-Ok.ensures.0 in
    let after_get = progress_kept c.args.self.now placed kept c.args.perf_file.now c.read.new.perf_file before (record { unchanged = c.in-None-get_next.ensures.1; pending = refl; same_records = refl; round = refl }) in
    let same = c.in-None-take_untimed.ensures.0 in
    let after = subst (λ s. Progress c.args.self.now c.args.perf_file.now s c.read.new.perf_file) (sym same) after_get in
    let untaken = c.take_untimed.new.self in
    subst (λ s. Progress c.args.self.now c.args.perf_file.now s c.read.new.perf_file) (sym c.in-None-take_end.ensures.0) after

pub reads-smaller : goal.reads-smaller
reads-smaller c =
    let placed = c.insert_pending.new.self in
    let kept : InMemoryOrderedRecords = record { records = placed.records; sorter = c.get_next-in-reads.new.self; round = placed.round; pending = placed.pending } in
    let same = c.in-None-take_end.ensures.0 ∙ c.in-None-take_untimed.ensures.0 in
    let pending = ap (λ s. s.pending) c.in-None-take_untimed.ensures.0 in
    let falls = work_falls c.reads.self c.read.new.self placed c.reads.perf_file c.read.new.perf_file c.read.ensures c.in-Ok.ensures.1 c.in-Ok.ensures.2 c.in-None-take_untimed.ensures.1
    (λ is. c.in-None-take_end.ensures.1 (pending ∙ is)) (λ e is. c.in-None-take_end.ensures.2 e (pending ∙ is)) in
    subst (λ s. work_of s < work_of c.reads.self) (sym same) falls
