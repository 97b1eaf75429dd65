use Rattle.std.proofs.Common.{Result, Ok, Err, sym, ◌∙◌, inl}
use Rattle.std.specs.Prelude.{OnErr}
use Rattle.std.proofs.lemmas.Bool.{false≢true}
use Rattle.perfdata_listing.proofs.list.flush_before_blocking.Goals as goal

on_err : {T E : Type 0} (r : Result T E) (P : Type 0) → P → OnErr r P
on_err (Ok x) P p = tt
on_err (Err e) P p = p

pub returns-clause-on_error : goal.returns-clause-on_error
returns-clause-on_error g c = on_err c.flush_pending.result _ (λ finished. absurd (false≢true (sym c.if-is_next_buffered.false ∙ c.is_next_buffered.ensures.exact.1 (inl finished))))
