use Rattle.std.proofs.Common.{◌≡◌, ◌∙◌, ◌<◌, arith, get_or, length}
use Rattle.std.proofs.lemmas.List.{get_or_default}
use Rattle.std.proofs.lemmas.List.Sorted.{Contains-permutation}
use Rattle.perfdata_views.proofs.entry_tree.text_order.Goals as goal

pub returns : goal.returns
returns c = λ number below.
    let within : number < length c.numbers.order.items = omega (arith, c.len-number-end.ensures, c.numbers.invariant.0) in
    let is : get_or c.numbers.order.items number number ≡ number = get_or_default c.numbers.order.items number number 0 within ∙ c.numbers.invariant.1 number (omega (arith, c.numbers.invariant.0)) in
    Contains-permutation c.numbers.order.items c.sort_by.new.self.items number c.sort_by.ensures.permutation (number, within, is)
