use Rattle.std.proofs.Common.{arith, ap, Ok, Some, ◌∙◌, subst, [], ◌∷◌, ◌++◌, length}
use Rattle.perfdata_arrays.specs.Jit.{FindsRecord, jit_entries}
use Rattle.perfdata_arrays.proofs.JitLemmas.{writes_jit_records-snoc}
use Rattle.linux_perf_data.proofs.EntryLemmas.{length-with_prefix}
use Rattle.perfdata_arrays.proofs.jit.jit_records.Goals as goal

pub records-preserved : goal.records-preserved
records-preserved c =
    let before = c.records.invariant in
    let endian = c.in-Ok.read.1 in
    let bytes = c.args.bytes.now in
    let found : FindsRecord endian bytes c.records.next (Ok (Some c.in-Ok-Some.record)) = subst (FindsRecord endian bytes c.records.next) (c.in-Ok-Some.is ∙ ap Ok c.in-Ok-Some.field-0-is) c.find_record.ensures in
    let test = c.records-test.true in (
      before.0 ++ found.0 ∷ [],
      writes_jit_records-snoc endian bytes c.max-next.result before.0 c.args.entries.now c.records.records c.records.next c.records.entries found.0 c.in-Ok-Some.record before.1
          (omega (arith, test, ap length before.1.written, length-with_prefix (jit_entries endian c.max-next.result before.0) c.args.entries.now)) found.1 found.2,
    )
