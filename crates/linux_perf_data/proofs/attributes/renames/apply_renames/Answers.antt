use Rattle.std.proofs.Common.{rules, ◌≡◌, ◌∙◌, ◌<◌, [], length, length-set, arith, subst}
use Rattle.std.specs.List.{All}
use Rattle.std.proofs.lemmas.List.{nil_from_length}
use Rattle.linux_perf_data.specs.steps.Renames.{AreRenamesFor, Rename}
use Rattle.linux_perf_data.proofs.Naming.{renamed}
use Rattle.linux_perf_data.proofs.RenameLemmas.{all_but_last, rename_applied, renames_applied}
use Rattle.linux_perf_data.proofs.attributes.renames.apply_renames.Goals as goal

pub bounds-attributes-index : goal.bounds-attributes-index
bounds-attributes-index c =
    let ds = c.renames.attributes in
    let r : Rename = (c.in-Some.index, c.in-Some.name) in
    (all_but_last (λ r. r.0 < length ds) c.pop.new.self.items r (subst (All (λ (r : Rename). r.0 < length ds)) c.in-Some.ensures.items c.renames.invariant.in_bounds)).1

pub offset_bounds-attributes-index : goal.offset_bounds-attributes-index
offset_bounds-attributes-index c =
    let ds = c.renames.attributes in
    let r : Rename = (c.in-Some.index, c.in-Some.name) in
    let below : c.in-Some.index < length ds = (all_but_last (λ r. r.0 < length ds) c.pop.new.self.items r (subst (All (λ (r : Rename). r.0 < length ds)) c.in-Some.ensures.items c.renames.invariant.in_bounds)).1 in
    search rules

pub renames-preserved : goal.renames-preserved
renames-preserved c =
    let ds = c.renames.attributes in
    let i = c.in-Some.index in
    let r : Rename = (i, c.in-Some.name) in
    let rs = c.pop.new.self.items in
    let old = c.index-attributes-index.result in
    let new = c.set_name.new.self in
    let before = c.renames.invariant in
    let parts = all_but_last (λ r. r.0 < length ds) rs r (subst (All (λ (r : Rename). r.0 < length ds)) c.in-Some.ensures.items before.in_bounds) in record {
      in_bounds = λ k d less. (let low = parts.0 k d less in let count = length-set ds i new in omega (arith, low, count));
      same = renamed ds i old new parts.1 c.set_name.ensures.attr c.set_name.ensures.ids ∙ before.same;
      names = λ t are. rename_applied ds t rs r old new parts.1 c.set_name.ensures.name c.set_name.ensures.ids (subst (AreRenamesFor ds t) c.in-Some.ensures.items (before.names t are));
    }

pub returns-clause-names : goal.returns-clause-names
returns-clause-names c =
    let renames = c.renames.renames in
    let counted = renames.ok in
    let empty = c.in_default.ensures.cases.0 in
    let none : renames.items ≡ [] = nil_from_length renames.items (omega (arith, counted, empty)) in
    λ t are. renames_applied c.renames.attributes t renames.items none (c.renames.invariant.names t are)
