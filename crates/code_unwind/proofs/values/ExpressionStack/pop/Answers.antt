use Rattle.std.proofs.Common.{◌-◌, ap, arith, length, length-take}
use Rattle.std.proofs.lemmas.List.{length-reverse}
use Rattle.code_unwind.proofs.values.ExpressionStack.pop.Goals as goal

pub returns-clause-few : goal.returns-clause-few
returns-clause-few c =
    let items = c.args.self.now.items.items in
    let fewer = ap length c.pop.ensures.rest in
    let taken = length-take (length items - 1) items in
    let most = c.len-count.ensures in
    simp length-reverse (omega (arith, fewer, taken, most.value, most.fits))
