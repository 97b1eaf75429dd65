use Rattle.std.proofs.Common.{[], inl, inr, refl, sym}
use Rattle.std.proofs.lemmas.List.{append-nil}
use Rattle.perfdata_spaces.specs.Effects.{effect_of}
use Rattle.perfdata_spaces.specs.Spaces.{values_of}
use Rattle.std.proofs.lemmas.Result.{err_from_is_err_and, on_err_weaker}
use Rattle.perfdata_spaces.proofs.Applying.{applied_ok, applied_err, indices_kept, mappings_added, mappings_kept, follows_but, none_applied, from_follows_ok, from_follows_err}
use Rattle.perfdata_spaces.proofs.address_spaces.AddressSpaces.apply.Goals as goal

pub returns-clause-repeated_ok : goal.returns-clause-repeated_ok
returns-clause-repeated_ok c = applied_ok c.args.misc c.args.record.now c.args.self.now _ c.apply-2.result c.in_ok-apply.ensures.change c.apply-2.ensures.change

pub returns-clause-repeated_err : goal.returns-clause-repeated_err
returns-clause-repeated_err c = applied_err c.args.misc c.args.record.now c.args.self.now _ c.apply-2.result c.in_ok-apply.ensures.change c.apply-2.ensures.change

pub returns-clause-ok : goal.returns-clause-ok
returns-clause-ok c = from_follows_ok c.args.record.now c.args.self.now _ c.apply-2.result (applied_ok c.args.misc c.args.record.now c.args.self.now _ c.apply-2.result c.in_ok-apply.ensures.change c.apply-2.ensures.change)

pub returns-clause-err : goal.returns-clause-err
returns-clause-err c = from_follows_err c.args.record.now c.args.self.now _ c.apply-2.result (applied_err c.args.misc c.args.record.now c.args.self.now _ c.apply-2.result c.in_ok-apply.ensures.change c.apply-2.ensures.change)

pub returns-in_err-apply-clause-err : goal.returns-in_err-apply-clause-err
returns-in_err-apply-clause-err c =
    let p = err_from_is_err_and c.from_residual.result c.from_residual.ensures.1 in
    rw p.1 (λ records follows. none_applied records c.args.misc c.args.record.now c.args.self.now _ (follows_but records c.args.record.now c.args.self.now follows) c.in_err-apply.ensures.change refl)

pub returns-clause-indices : goal.returns-clause-indices
returns-clause-indices c = indices_kept (effect_of c.args.misc c.args.record.now) c.args.self.now.spaces c.apply-2.new.self c.apply-2.result c.apply-2.ensures.change

pub returns-in_err-apply-clause-indices : goal.returns-in_err-apply-clause-indices
returns-in_err-apply-clause-indices c = ([], sym (append-nil (values_of c.args.self.now.spaces)))

pub returns-clause-added : goal.returns-clause-added
returns-clause-added c = mappings_added (effect_of c.args.misc c.args.record.now) c.args.self.now _ c.apply-2.result c.apply-2.ensures.change

pub returns-clause-unchanged : goal.returns-clause-unchanged
returns-clause-unchanged c = mappings_kept (effect_of c.args.misc c.args.record.now) c.args.self.now.spaces c.apply-2.new.self c.apply-2.result c.apply-2.ensures.change

pub returns-in_err-apply-clause-memory : goal.returns-in_err-apply-clause-memory
returns-in_err-apply-clause-memory c =
    let p = err_from_is_err_and c.from_residual.result c.from_residual.ensures.1 in
    rw p.1 (inr c.in_err-apply.ensures.memory)

pub returns-clause-memory : goal.returns-clause-memory
returns-clause-memory c = on_err_weaker c.apply-2.result inl c.apply-2.ensures.memory
