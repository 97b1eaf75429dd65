use Rattle.std.proofs.Common.{◌≡◌, ◌∙◌, ◌+◌, ◌<◌, ◌^◌, List, ℕ, ap, subst, sym, arith, rules, drop, length, map, replicate, take}
use Rattle.std.proofs.lemmas.List.{take_at}
use Rattle.std.specs.List.{sum_by}
use Rattle.perfdata_profile.specs.Names.{names_of, number_of}
use Rattle.perfdata_profile.specs.Profiles.{lists_of}
use Rattle.perfdata_profile.specs.SampleSums.{entries_of}
use Rattle.perfdata_profile.specs.Sums.{entry_weight}
use Rattle.perfdata_profile.specs.Values.{name_at}
use Rattle.perfdata_views.specs.Entries.{entries_in}
use Rattle.perfdata_views.specs.steps.Entries.{AreNames}
use Rattle.perfdata_views.specs.steps.FunctionTables.{AreTallies, CountsEntry, no_tally}
use Rattle.perfdata_views.specs.declared.table.Tally.{Tally}
use Rattle.perfdata_views.proofs.Tallying.{all_tallies, tallies_next, tallies_none}
use Rattle.perfdata_views.proofs.table.tallies.Goals as goal

pub entries-init : goal.entries-init
entries-init c =
    let items = c.in_ok-tallies.ensures.items_if_clones_equal (λ y is. is) in
    tallies_none (names_of c.args.profile.now.tables.names) c.in_ok-tallies.tallies.items (items ∙ ap (λ (n : ℕ). replicate n no_tally) c.len.ensures)

pub entries-preserved : goal.entries-preserved
entries-preserved c =
    let lists = lists_of c.args.profile.now.tables in
    let total = c.total-total.type_inv in
    let fits : sum_by entry_weight (entries_of c.args.profile.now.sums) < 2 ^ 64 = omega (arith, c.total-total.ensures.weights) in
    let numbers : List ℕ = map number_of c.as_slice.result.now in
    let within = subst (AreNames lists) (sym c.as_slice.ensures.value) c.in_ok-functions.ensures.within in
    let names = ap (map (name_at lists)) c.as_slice.ensures.value ∙ c.in_ok-functions.ensures.names in
    let new : List Tally = c.count_entry.new.tallies in
    let counted : CountsEntry c.entries.tallies.items numbers (c.entries.index + 1) c.find_entry.result.1.weight new = subst (λ (ts : List Tally). CountsEntry ts numbers (c.entries.index + 1) c.find_entry.result.1.weight new) c.deref_mut.ensures.value c.count_entry.ensures in
    let size : c.entries.tallies.len ≡ length c.entries.tallies.items = search rules in
    let whole = take_at new (drop (length new) c.entries.tallies.items) c.entries.tallies.len (counted.count_is ∙ sym size) in
    let next = tallies_next lists c.args.profile.now.tables.names.once (entries_of c.args.profile.now.sums) c.entries.index c.find_entry.result c.find_entry.ensures fits c.as_slice.result.now within names c.entries.tallies.items new c.entries.invariant counted in
    subst (AreTallies (names_of c.args.profile.now.tables.names) (take (c.entries.index + 1) (entries_in c.args.profile.now))) (sym whole) next

pub returns : goal.returns
returns c = all_tallies (lists_of c.args.profile.now.tables) (entries_of c.args.profile.now.sums) c.entries.index c.entries.tallies.items (omega (arith, c.len-index-end.ensures)) c.entries.invariant
