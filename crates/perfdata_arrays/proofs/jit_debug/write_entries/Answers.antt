use Rattle.std.proofs.Common.{arith, ◌+◌}
use Rattle.perfdata_arrays.proofs.JitDebugLemmas.{debug_end-prefix, debug_end-fits, entries_written, entry_end}
use Rattle.perfdata_arrays.proofs.jit_debug.write_entries.Goals as goal

pub debug_entry-entry-requires : goal.debug_entry-entry-requires
debug_entry-entry-requires c =
    let end = c.entries.invariant.end in
    let fits = c.requires in
    omega (arith, end, fits, debug_end-fits c.args.first_offset c.args.entries.now c.entries.index c.entries-test.true)

pub overflow_add-offset : goal.overflow_add-offset
overflow_add-offset c =
    let fits = c.requires in
    let end = entry_end c.args.entries.now c.entries.index c.args.first_offset c.entries.offset c.debug_entry-entry.result _ c.entries-test.true c.entries.invariant.end c.debug_entry-entry.ensures in
    omega (arith, end, fits, debug_end-prefix c.args.first_offset c.args.entries.now (c.entries.index + 1))

pub overflow_add-offset-in-entries : goal.overflow_add-offset-in-entries
overflow_add-offset-in-entries c =
    let fits = c.requires in
    let end = entry_end c.args.entries.now c.entries.index c.args.first_offset c.entries.offset c.debug_entry-entry.result _ c.entries-test.true c.entries.invariant.end c.debug_entry-entry.ensures in
    omega (arith, end, fits, debug_end-prefix c.args.first_offset c.args.entries.now (c.entries.index + 1))

pub entries-preserved : goal.entries-preserved
entries-preserved c =
    let inv = c.entries.invariant in
    let test = c.entries-test.true in
    record {
      within = omega (arith, test);
      end = entry_end c.args.entries.now c.entries.index c.args.first_offset c.entries.offset c.debug_entry-entry.result _ test inv.end c.debug_entry-entry.ensures;
      written = entries_written c.args.entries.now c.entries.index c.args.first_offset c.entries.offset c.debug_entry-entry.result _ test inv.end c.debug_entry-entry.ensures c.args.out.now c.entries.out c.copy_entries.new.array inv.written c.copy_entries.ensures;
    }
