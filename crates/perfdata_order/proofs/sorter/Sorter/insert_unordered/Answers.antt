use Rattle.std.proofs.Common.{◌∙◌, ◌≤◌, None, Some, get_or, length, refl, sym, ap, subst, rules}
use Rattle.std.proofs.lemmas.List.{get_or-set_same, get_or-set_other, length-set}
use Rattle.perfdata_order.specs.Slots.{slots_of, value_at}
use Rattle.perfdata_order.specs.Entries.{IsPlaced, HaveKeys}
use Rattle.perfdata_order.proofs.Entries.{inserted_slot, placed_inserted, have_inserted}
use Rattle.perfdata_order.proofs.VacantSlots.{found_kept, found_vacant, few_slots, unchanged_entries}
use Rattle.perfdata_order.proofs.sorter.Sorter.insert_unordered.Goals as goal

pub returns : goal.returns
returns g c =
    let old = c.args.self.now in
    let slot = c.in-Ok.slot in
    let found = c.in-Ok.ensures in
    let slots = slots_of c.vacant.new.self in
    let kept = found_kept old.values c.vacant.new.self c.len.result slot found in
    let vacant = found_vacant old.values c.vacant.new.self c.len.result slot found in
    let count = ap length c.put.ensures ∙ length-set slots slot (Some c.args.value) in
    inserted_slot g.K.Ord.cmp old _ c.args.key slot c.args.value (search rules) (sym (kept slot) ∙ vacant.vacant)
    (ap (λ xs. get_or xs slot None) c.put.ensures ∙ get_or-set_same slots slot (Some c.args.value) None vacant.in_range)
    (λ other apart. ap (λ xs. get_or xs other None) c.put.ensures ∙ get_or-set_other slots slot other (Some c.args.value) None apart ∙ kept other)
    refl (subst (λ n. old.available ≤ n) old.order.ok.0 old.in_range) refl (ap Some c.greatest_key.ensures) (few_slots old _ c.vacant.new.self c.len.result slot (search rules) count found)

pub returns-in-Err-push_back : goal.returns-in-Err-push_back
returns-in-Err-push_back g c =
    let old = c.args.self.now in
    let slot = c.in-Ok.slot in
    let found = c.in-Ok.ensures in (
      refl,
      unchanged_entries old _ (found_kept old.values c.vacant.new.self c.len.result slot found) c.in-Err-push_back.ensures.items refl refl refl (few_slots old _ c.vacant.new.self c.len.result slot (search rules) refl found),
    )

pub invariant_of-self-2-clause-have_keys : goal.invariant_of-self-2-clause-have_keys
invariant_of-self-2-clause-have_keys g c =
    let old = c.args.self.now in
    let slot = c.in-Ok.slot in
    let slots = slots_of c.vacant.new.self in
    let kept = found_kept old.values c.vacant.new.self c.len.result slot c.in-Ok.ensures in
    subst (λ xs. HaveKeys (value_at c.put.new.self) xs) (sym c.in-Ok-push_back.ensures.items)
    (have_inserted (value_at old.values) (value_at c.put.new.self) c.args.key slot old.order.items old.have_keys
    (λ other apart. ap (λ xs. get_or xs other None) c.put.ensures ∙ get_or-set_other slots slot other (Some c.args.value) None apart ∙ kept other))

pub invariant_of-self-2-clause-placed : goal.invariant_of-self-2-clause-placed
invariant_of-self-2-clause-placed g c =
    let old = c.args.self.now in
    let slot = c.in-Ok.slot in
    let slots = slots_of c.vacant.new.self in
    let kept = found_kept old.values c.vacant.new.self c.len.result slot c.in-Ok.ensures in
    let vacant = found_vacant old.values c.vacant.new.self c.len.result slot c.in-Ok.ensures in
    subst (λ xs. IsPlaced (value_at c.put.new.self) xs) (sym c.in-Ok-push_back.ensures.items)
    (placed_inserted (value_at old.values) (value_at c.put.new.self) c.args.key slot c.args.value old.order.items old.placed (sym (kept slot) ∙ vacant.vacant)
    (ap (λ xs. get_or xs slot None) c.put.ensures ∙ get_or-set_same slots slot (Some c.args.value) None vacant.in_range)
    (λ other apart. ap (λ xs. get_or xs other None) c.put.ensures ∙ get_or-set_other slots slot other (Some c.args.value) None apart ∙ kept other))
