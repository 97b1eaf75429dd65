use Rattle.std.proofs.Common.{◌≡◌, ◌++◌, List, Vec, Global, ℕ, map, subst}
use Rattle.std.proofs.lemmas.Result.{IfOk-weaker}
use Rattle.std.specs.List.{flat_map}
use Rattle.perfdata_views.specs.Counts.{Added, counted_lines}
use Rattle.perfdata_views.specs.Entries.{Entry, entries_in}
use Rattle.perfdata_views.specs.Differences.{IsTextOfColumns, totals_of, written_count}
use Rattle.perfdata_views.specs.declared.differences.CountPair.{CountPair}
use Rattle.perfdata_views.specs.steps.Differences.{columns_of, key_of}
use Rattle.perfdata_views.specs.steps.Lines.{added_of}
use Rattle.perfdata_views.proofs.Columns.{text_is}
use Rattle.perfdata_views.proofs.differences.paired_text.Goals as goal

pub returns : goal.returns
returns c =
    let old : List Entry = entries_in c.args.compared.old.now in
    let new : List Entry = entries_in c.args.compared.new.now in
    let olds = c.in_ok-old.old in
    let both = c.add_keys.new.counts in
    let counts = c.in_ok-old.ensures in
    let added : List Added = map added_of new ++ map key_of (counted_lines olds) in
    let all = c.in_ok-add_keys.ensures (map added_of new) c.in_ok-both.ensures in
    let written : CountPair → ℕ → ℕ = λ totals. written_count c.args.compared.counts totals in
    IfOk-weaker c.columns_text.result (λ (text : Vec ℕ Global). text.items ≡ flat_map (columns_of olds (written c.totals.result)) (counted_lines both))
    (λ (text : Vec ℕ Global). IsTextOfColumns old new (written (totals_of c.args.compared.old.now c.args.compared.new.now)) text.items)
    (λ text is. subst (λ (totals : CountPair). IsTextOfColumns old new (written totals) text.items) c.totals.ensures
    (text_is old new (written c.totals.result) olds both counts (c.iter-old.ensures.lines (map added_of old) counts) (c.iter-both.ensures.lines added all) c.iter-both.ensures.ascending text.items is))
    c.columns_text.ensures
