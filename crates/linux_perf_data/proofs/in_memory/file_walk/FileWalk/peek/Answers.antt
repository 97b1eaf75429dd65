use Rattle.std.proofs.Common.{rules, ◌≡◌, ◌+◌, ◌^◌, ◌≤◌, sym, subst, None, Some}
use Rattle.linux_perf_data.specs.steps.BufferedRecord.{WholeRecordLength}
use Rattle.linux_perf_data.specs.steps.FileWalk.{PeeksNextRecord}
use Rattle.linux_perf_data.proofs.FileWalkEnds.{marker_at_most_if_end_overflows}
use Rattle.linux_perf_data.proofs.in_memory.file_walk.FileWalk.peek.Goals as goal

-- src/in_memory/file_walk.rt:127:19
pub returns-in_err-end : goal.returns-in_err-end
returns-in_err-end c =
    let whole : WholeRecordLength c.args.self.now.endian c.args.self.now.remaining.now (Some c.in_ok-header.length) = search rules in
    let overflows : 2 ^ 64 ≤ c.args.self.now.offset + c.in_ok-header.length = search rules in
    let none : c.from_residual-in_err-end.result ≡ None = search rules in
    subst (λ r. PeeksNextRecord c.args.self.now r) (sym none) (marker_at_most_if_end_overflows c.args.self.now c.in_ok-header.length whole overflows)
