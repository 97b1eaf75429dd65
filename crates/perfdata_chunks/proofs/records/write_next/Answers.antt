use Rattle.std.proofs.Common.{arith, ◌<◌, ◌++◌, length, sym, ap, ◌∙◌}
use Rattle.std.specs.Prelude.{slice_set}
use Rattle.linux_perf_data.specs.RecordEntries.{with_prefix}
use Rattle.linux_perf_data.proofs.EntryLemmas.{length-with_prefix, with_prefix-snoc}
use Rattle.perfdata_arrays.specs.Entries.{list_of}
use Rattle.perfdata_chunks.proofs.records.write_next.Goals as goal

pub returns-in-Some-clause-written : goal.returns-in-Some-clause-written
returns-in-Some-clause-written c = λ es before counts is.
    let entry = c.in-Some.entry in
    let least = c.requires in
    let free : length es < length before = omega (arith, counts, least, ap length is, length-with_prefix es before) in
    (λ i. slice_set (is i) (counts i) entry) ∙ sym (with_prefix-snoc es before entry free) ∙ ap (λ o. with_prefix (es ++ list_of o) before) (sym c.in-Some.is)
