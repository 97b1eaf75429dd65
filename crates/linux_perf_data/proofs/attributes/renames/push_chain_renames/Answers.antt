use Rattle.std.proofs.Common.{◌<◌, arith, subst, sym}
use Rattle.linux_perf_data.specs.FirstIdIndex.{id_lists_of}
use Rattle.linux_perf_data.proofs.RenameLemmas.{RenamedFrom, next_in_bounds, previous_is, rank, rank_smaller, renamed_all, renamed_from_more, renamed_none}
use Rattle.linux_perf_data.proofs.attributes.renames.push_chain_renames.Goals as goal

pub chain-init : goal.chain-init
chain-init c = renamed_none c.args.attributes.now c.args.table.now c.args.first_ids.now c.args.id c.last_index-next.result c.args.renames.now.items c.requires c.last_index-next.ensures

pub push_rename-requires : goal.push_rename-requires
push_rename-requires c =
    let ds = c.args.attributes.now in
    let before = subst (λ o. RenamedFrom ds c.args.table.now c.args.id o c.args.renames.now.items c.chain.renames.items) c.in-Some.is c.chain.invariant in
    next_in_bounds ds c.args.table.now c.args.id c.in-Some.index c.args.renames.now.items c.chain.renames.items before

pub previous-next-requires : goal.previous-next-requires
previous-next-requires c =
    let ds = c.args.attributes.now in
    let before = subst (λ o. RenamedFrom ds c.args.table.now c.args.id o c.args.renames.now.items c.chain.renames.items) c.in-Some.is c.chain.invariant in
    let below = next_in_bounds ds c.args.table.now c.args.id c.in-Some.index c.args.renames.now.items c.chain.renames.items before in
    let all = c.requires.1 in
    omega (arith, below, all)

pub chain-preserved : goal.chain-preserved
chain-preserved c =
    let ds = c.args.attributes.now in
    let before = subst (λ o. RenamedFrom ds c.args.table.now c.args.id o c.args.renames.now.items c.chain.renames.items) c.in-Some.is c.chain.invariant in
    let next = previous_is ds c.args.table.now c.args.id c.in-Some.index c.args.renames.now.items c.chain.renames.items before c.args.first_ids.now c.previous-next.result c.requires c.previous-next.ensures in
    renamed_from_more ds c.args.table.now c.args.id c.in-Some.index c.args.renames.now.items c.chain.renames.items before c.previous-next.result c.push_rename.new.renames.items next c.in_ok-push_rename.ensures

pub chain-smaller : goal.chain-smaller
chain-smaller c =
    let ds = c.args.attributes.now in
    let before = subst (λ o. RenamedFrom ds c.args.table.now c.args.id o c.args.renames.now.items c.chain.renames.items) c.in-Some.is c.chain.invariant in
    let next = previous_is ds c.args.table.now c.args.id c.in-Some.index c.args.renames.now.items c.chain.renames.items before c.args.first_ids.now c.previous-next.result c.requires c.previous-next.ensures in
    subst (λ o. rank c.previous-next.result < rank o) (sym c.in-Some.is) (rank_smaller (id_lists_of ds) c.args.id c.in-Some.index c.previous-next.result next)

pub returns : goal.returns
returns c = renamed_all c.args.attributes.now c.args.table.now c.args.id c.args.renames.now.items c.chain.renames.items (subst (λ o. RenamedFrom c.args.attributes.now c.args.table.now c.args.id o c.args.renames.now.items c.chain.renames.items) c.in_default.is c.chain.invariant)
