use Rattle.std.proofs.Common.{◌≡◌, ◌++◌, ◌∷◌, [], ℕ, List, sym, subst, arith, rules, map, take}
use Rattle.perfdata_profile.specs.Profiles.{lists_of}
use Rattle.perfdata_profile.specs.SampleSums.{entries_of}
use Rattle.perfdata_profile.specs.Values.{sample_value}
use Rattle.perfdata_views.specs.Counts.{Added, Counts}
use Rattle.perfdata_views.specs.Entries.{entries_in}
use Rattle.perfdata_views.specs.Lines.{line_of}
use Rattle.perfdata_views.specs.steps.Lines.{added_of}
use Rattle.perfdata_views.proofs.LineSums.{added_more, all_lines, sum_within}
use Rattle.perfdata_views.proofs.lines.line_counts.Goals as goal

pub add_line-requires : goal.add_line-requires
add_line-requires c =
    let within = sum_within (lists_of c.args.profile.now.tables) (entries_of c.args.profile.now.sums) c.entries.index c.find_entry.result c.find_entry.ensures c.entries.counts c.entries.invariant in
    let fits = c.total-total.type_inv in
    omega (arith, within, c.total-total.ensures.weights)

pub entries-preserved : goal.entries-preserved
entries-preserved c =
    let lists = lists_of c.args.profile.now.tables in
    let keys = entries_of c.args.profile.now.sums in
    let entry = c.find_entry.result in
    let before : List Added = map added_of (take c.entries.index (entries_in c.args.profile.now)) in
    let is : c.push_line.new.line.items ≡ line_of (sample_value lists entry.0) = search rules in
    let added : Counts (before ++ record { line = c.as_slice.result.now; weight = c.find_entry.result.1.weight } ∷ []) c.add_line.new.counts = c.in_ok-add_line.ensures before c.entries.invariant in
    let read = subst (λ (l : List ℕ). Counts (before ++ record { line = l; weight = c.find_entry.result.1.weight } ∷ []) c.add_line.new.counts) c.as_slice.ensures.value added in
    subst (λ (a : List Added). Counts a c.add_line.new.counts) (added_more lists keys c.entries.index entry c.find_entry.ensures c.push_line.new.line.items is) read

pub returns : goal.returns
returns c = all_lines (lists_of c.args.profile.now.tables) (entries_of c.args.profile.now.sums) c.entries.index c.entries.counts (omega (arith, c.len-index-end.ensures)) c.entries.invariant
