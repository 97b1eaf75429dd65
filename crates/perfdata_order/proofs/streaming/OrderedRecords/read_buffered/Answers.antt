use Rattle.std.proofs.Common.{sym, subst}
use Rattle.std.proofs.lemmas.Result.{err_from_is_err_and}
use Rattle.perfdata_order.specs.StreamingOrder.{ReadsBuffered}
use Rattle.perfdata_order.proofs.StreamingCalls.{no_progress, progress_read, progress_places, progress_unread, work_falls, keeps_itself}
use Rattle.perfdata_order.proofs.streaming.OrderedRecords.read_buffered.Goals as goal

pub reads-init : goal.reads-init
reads-init g c = (no_progress g.R.Source.state c.args.self.now c.args.perf_file.now, c.if-is_next_known.ensures.0)

pub returns-then-not-is_next_buffered : goal.returns-then-not-is_next_buffered
returns-then-not-is_next_buffered g c = c.reads.invariant.0

pub returns-in_err-read : goal.returns-in_err-read
returns-in_err-read g c =
    let state = g.R.Source.state in
    let unread = c.in_err-read.ensures c.reads.invariant.1 in
    let p = err_from_is_err_and c.from_residual.result c.from_residual.ensures.1 in
    subst (λ r. ReadsBuffered state c.args.self.now c.args.perf_file.now r c.read.new.self c.read.new.perf_file) (sym p.1)
    (progress_unread state c.args.self.now c.reads.self c.read.new.self c.args.perf_file.now c.reads.perf_file c.read.new.perf_file c.reads.invariant.0 unread.0 unread.1)

pub returns-in_err-insert_pending : goal.returns-in_err-insert_pending
returns-in_err-insert_pending g c =
    let state = g.R.Source.state in
    let pending = c.in_ok-read.ensures c.reads.invariant.1 in
    let read = progress_read state c.args.self.now c.reads.self c.read.new.self c.args.perf_file.now c.reads.perf_file c.read.new.perf_file c.reads.invariant.0 pending in
    let p = err_from_is_err_and c.from_residual-in_err-insert_pending.result c.from_residual-in_err-insert_pending.ensures.1 in
    subst (λ r. ReadsBuffered state c.args.self.now c.args.perf_file.now r c.insert_pending.new.self c.read.new.perf_file) (sym p.1)
    (progress_places state c.args.self.now c.read.new.self c.insert_pending.new.self c.args.perf_file.now c.read.new.perf_file read c.in_err-insert_pending.ensures)

pub returns-then-is_next_known-2 : goal.returns-then-is_next_known-2
returns-then-is_next_known-2 g c =
    let state = g.R.Source.state in
    let pending = c.in_ok-read.ensures c.reads.invariant.1 in
    let read = progress_read state c.args.self.now c.reads.self c.read.new.self c.args.perf_file.now c.reads.perf_file c.read.new.perf_file c.reads.invariant.0 pending in
    (progress_places state c.args.self.now c.read.new.self c.insert_pending.new.self c.args.perf_file.now c.read.new.perf_file read c.in_ok-insert_pending.ensures.0, c.if-is_next_known-2.ensures)

pub reads-smaller : goal.reads-smaller
reads-smaller g c =
    let placed = c.insert_pending.new.self in
    let none = c.if-is_next_known-2.ensures in
    work_falls g.R.Source.state c.reads.self c.read.new.self placed placed c.reads.perf_file c.read.new.perf_file (c.in_ok-read.ensures c.reads.invariant.1) c.in_ok-insert_pending.ensures.1 c.in_ok-insert_pending.ensures.2 none.0 (keeps_itself g.R.Source.state placed) none.1 none.2

pub reads-preserved : goal.reads-preserved
reads-preserved g c =
    let state = g.R.Source.state in
    let pending = c.in_ok-read.ensures c.reads.invariant.1 in
    let read = progress_read state c.args.self.now c.reads.self c.read.new.self c.args.perf_file.now c.reads.perf_file c.read.new.perf_file c.reads.invariant.0 pending in
    (progress_places state c.args.self.now c.read.new.self c.insert_pending.new.self c.args.perf_file.now c.read.new.perf_file read c.in_ok-insert_pending.ensures.0, c.if-is_next_known-2.ensures.0)
