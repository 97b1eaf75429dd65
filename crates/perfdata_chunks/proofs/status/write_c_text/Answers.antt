use Rattle.std.proofs.Common.{◌≡◌, ◌-◌, ◌++◌, ◌∷◌, [], ◌∙◌, arith, ap, sym, length, take}
use Rattle.std.specs.Prelude.{min}
use Rattle.std.proofs.lemmas.List.{length-take-le}
use Rattle.linux_perf_data.specs.RecordEntries.{with_prefix}
use Rattle.perfdata_arrays.proofs.JitLemmas.{take-min}
use Rattle.perfdata_chunks.proofs.status.write_c_text.Goals as goal

pub returns : goal.returns
returns c =
    let text = c.args.text.now in
    let old = c.args.buf.now in
    let count = c.min-count.result in
    let is : count ≡ min (length text) (length old - 1) = c.min-count.ensures ∙ ap (λ n. min (length text) n) c.saturating_sub.ensures in
    let long : count ≡ length (take count text) = sym (length-take-le count text (omega (arith, is))) in
    c.write_entry.ensures.one_more (take count text) old long c.copy_prefix.ensures ∙ ap (λ l. with_prefix (l ++ 0 ∷ []) old) (take-min count (length old - 1) text is)
