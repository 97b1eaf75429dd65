use Rattle.std.proofs.Common.{◌++◌, [], ◌∷◌, ap, arith, sym, ◌∙◌}
use Rattle.linux_perf_data.specs.RecordEntries.{with_prefix}
use Rattle.perfdata_arrays.proofs.CounterLemmas.{group_entries_next, length_group_entries}
use Rattle.perfdata_arrays.specs.Counters.{group_entries, group_entry}
use Rattle.perfdata_arrays.proofs.counters.write_group.Goals as goal

pub overflow_add-index : goal.overflow_add-index
overflow_add-index c =
    let within = c.in-Some.ensures.within in
    let count = c.len-count.ensures in
    omega (arith, within, count)

pub counters-preserved : goal.counters-preserved
counters-preserved c =
    let before = c.counters.invariant in
    let offset = c.args.offset in
    let group = c.args.group.now in
    let index = c.counters.index in
    let array = c.args.counters.now in
    let within = c.in-Some.ensures.within in
    record {
      within = omega (arith, within);
      written = c.write_entry.ensures.one_more (group_entries offset group index) array (sym (length_group_entries offset group index)) before.written
          ∙ ap (λ e. with_prefix (group_entries offset group index ++ e ∷ []) array) (c.group_entry-entry.ensures ∙ ap (group_entry offset group) c.in-Some.ensures.counter)
          ∙ ap (λ l. with_prefix l array) (sym (group_entries_next offset group index));
    }
