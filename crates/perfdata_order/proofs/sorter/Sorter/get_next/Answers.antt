use Rattle.std.proofs.Common.{◌-◌, ◌∙◌, None, get_or, length, refl, ap, arith}
use Rattle.std.proofs.lemmas.List.{get_or-set_other, length-set}
use Rattle.perfdata_order.specs.Slots.{slots_of}
use Rattle.perfdata_order.proofs.Entries.{takes_slot}
use Rattle.perfdata_order.proofs.sorter.Sorter.get_next.Goals as goal

pub returns : goal.returns
returns g c =
    let old = c.args.self.now in
    let slot = c.in_ok-_key.slot in
    takes_slot old _ c.in_ok-_key._key slot (old.available - 1) c.take.result c.pop_front.new.self.items c.in_ok-_key.ensures.items refl (let some = c.if-self-eq0.false in omega (arith, some)) refl c.take.ensures.value
    (λ other apart. ap (λ xs. get_or xs other None) c.take.ensures.vacates ∙ get_or-set_other (slots_of old.values) slot other None None apart) refl refl (ap length c.take.ensures.vacates ∙ length-set (slots_of old.values) slot None)
