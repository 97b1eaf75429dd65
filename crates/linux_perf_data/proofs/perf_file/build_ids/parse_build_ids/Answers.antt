use Rattle.std.proofs.Common.{length, ap, arith, length-append}
use Rattle.std.proofs.lemmas.Result.{err_from_is_err_and}
use Rattle.perfdata_records.specs.BuildIdEvent.{build_id_entry_of}
use Rattle.linux_perf_data.proofs.BuildIdRuns.{run_more}
use Rattle.linux_perf_data.proofs.BuildIdUniqueness.{not_truncated}
use Rattle.linux_perf_data.proofs.perf_file.build_ids.parse_build_ids.Goals as goal

pub entries-preserved : goal.entries-preserved
entries-preserved c =
    run_more c.args.endian c.args.bytes.now c.entries.rest.now c.read_with_endian.new.bytes.now c.entries.ids c.insert_entry.new.ids (build_id_entry_of c.in-Ok.entry) c.entries.invariant c.in-Ok.ensures c.in_ok-insert_entry.ensures

pub returns-in_err-insert_entry : goal.returns-in_err-insert_entry
returns-in_err-insert_entry c =
    let p = err_from_is_err_and c.from_residual.result c.from_residual.ensures.1 in
    let inv = c.entries.invariant in
    let entry = c.in-Ok.ensures in
    rw (p.1, p.2) (c.in_err-insert_entry.ensures, (inv.0, c.entries.rest.now, inv.1, λ short. not_truncated c.args.endian c.entries.rest.now entry.0 c.read_with_endian.new.bytes.now (build_id_entry_of c.in-Ok.entry) entry.1 entry.2 short))

pub entries-smaller : goal.entries-smaller
entries-smaller c =
    let entry = c.in-Ok.ensures in
    let long = entry.2.has_fixed_part in
    omega (arith, long, ap length entry.1, length-append entry.0 c.read_with_endian.new.bytes.now)
