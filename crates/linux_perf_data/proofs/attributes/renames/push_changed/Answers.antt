use Rattle.std.proofs.Common.{◌∙◌, sym, subst}
use Rattle.linux_perf_data.proofs.RenameLemmas.{RenamesVisited, visited_all, visited_kept, visited_more, visited_none, visited_renamed}
use Rattle.linux_perf_data.proofs.attributes.renames.push_changed.Goals as goal

pub ids-init : goal.ids-init
ids-init c =
    let ds = c.args.attributes.now in
    let old = c.args.renames.now.items in
    subst (λ keys. RenamesVisited ds c.args.listed.now c.args.old.now c.args.new.now keys old old) (sym c.into_iter-id-iterator.ensures.into_iter_gives)
    (visited_none ds c.args.listed.now c.args.old.now c.args.new.now c.keys-id-items.result old c.keys-id-items.ensures.has)

pub ids-preserved : goal.ids-preserved
ids-preserved c =
    let ds = c.args.attributes.now in
    let same = sym c.get.ensures ∙ c.if-not-is_same_name.ensures ∙ c.get-in-ids.ensures in
    visited_more ds c.args.listed.now c.args.old.now c.args.new.now c.in-Some.id.now c.ids.id-iterator c.next.new.self c.args.renames.now.items c.ids.renames.items c.ids.renames.items c.in-Some.ensures.steps c.ids.invariant
    (visited_kept ds c.args.old.now c.args.new.now c.in-Some.id.now c.ids.renames.items same)

pub ids-preserved-in-Continue-1 : goal.ids-preserved-in-Continue-1
ids-preserved-in-Continue-1 c =
    let ds = c.args.attributes.now in
    visited_more ds c.args.listed.now c.args.old.now c.args.new.now c.in-Some.id.now c.ids.id-iterator c.next.new.self c.args.renames.now.items c.ids.renames.items c.push_chain_renames.new.renames.items c.in-Some.ensures.steps c.ids.invariant
    (visited_renamed ds c.args.old.now c.args.new.now c.in-Some.id.now c.ids.renames.items c.push_chain_renames.new.renames.items c.in_ok-push_chain_renames.ensures)

pub returns : goal.returns
returns c = visited_all c.args.attributes.now c.args.listed.now c.args.old.now c.args.new.now c.ids.id-iterator c.args.renames.now.items c.ids.renames.items c.in-None.ensures.steps.0 c.ids.invariant
