use Rattle.std.proofs.Common.{ℕ, inl, subst}
use Rattle.code_unwind.proofs.step.find_caller.Goals as goal

pub returns-in_ok-found-in-Some-clause-found : goal.returns-in_ok-found-in-Some-clause-found
returns-in_ok-found-in-Some-clause-found g c = inl (record {
  place = c.place-place.result;
  place_is = subst (λ (a : ℕ). g.C.CodeMap.places c.args.code.now a c.place-place.result) c.look_up_address-look_up.ensures (c.in_ok-load.ensures.places c.look_up_address-look_up.result c.place-place.result c.place-place.ensures);
  table = c.in-Some.fde.table.now;
  index = c.in-Some.fde.index;
  address = c.in-Some.fde.address;
  has_fde = c.in-Some.ensures;
  by_fde = c.in_ok-found-in-Some.ensures;
})
