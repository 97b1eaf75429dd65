-- What holds of any error.
use Rattle.std.proofs.Common.{Result, Ok, Err}
use Rattle.std.specs.Prelude.{OnErr, IfErr}

pub on_any_error : {T E : Type 0} (r : Result T E) (P : Type 0) → P → OnErr r P
on_any_error (Ok x) P p = tt
on_any_error (Err e) P p = p

pub if_any_error : {T E : Type 0} (r : Result T E) (P : E → Type 0) → ((e : E) → P e) → IfErr r P
if_any_error (Ok x) P p = tt
if_any_error (Err e) P p = p e
