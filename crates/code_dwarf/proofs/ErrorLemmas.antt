-- What holds of any error.
use Rattle.std.proofs.Common.{Result, Ok, Err, Option, Some, None}
use Rattle.std.specs.Prelude.{OnErr, OnOk, IfNone}

pub on_error_map : {T E : Type 0} (r : Result T E) (P Q : Type 0) → (P → Q) → OnErr r P → OnErr r Q
on_error_map (Ok x) P Q f h = tt
on_error_map (Err e) P Q f h = f h

pub if_none_any : {T : Type 0} (o : Option T) (P : Type 0) → P → IfNone o P
if_none_any None P p = p
if_none_any (Some x) P p = tt

pub on_ok_map : {T E : Type 0} (r : Result T E) (P Q : Type 0) → (P → Q) → OnOk r P → OnOk r Q
on_ok_map (Ok x) P Q f h = f h
on_ok_map (Err e) P Q f h = tt
