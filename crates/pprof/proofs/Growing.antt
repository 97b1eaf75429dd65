-- Tables to which rows are appended.
use Rattle.std.proofs.Common.{◌≡◌, ◌∙◌, inl, inr, ap, sym, ℕ, List, [], ◌∷◌, ◌++◌, append_assoc, slice_get, Option, None, Some, ℤ, Result, Ok, Err, IfOk, OnErr}
use Rattle.std.proofs.lemmas.List.{append-nil}
use Rattle.pprof.specs.Labels.{IsKeyOf}
use Rattle.pprof.specs.Rows.{Grows, Interns}
use Rattle.pprof.proofs.Interning.{at_more}

pub grows_trans : {A : Type 0} → (first second third : List A) → Grows first second → Grows second third → Grows first third
grows_trans first second third grows more = (grows.0 ++ more.0, more.1 ∙ ap (λ l. l ++ more.0) grows.1 ∙ append_assoc first grows.0 more.0)

pub grows_equal : {A : Type 0} → (old new : List A) → new ≡ old → Grows old new
grows_equal old new is = ([], is ∙ sym (append-nil old))

pub interns_grows : {A : Type 0} → (old new : List A) (row : A) (index : ℕ) → Interns old row index new → Grows old new
interns_grows old new row index interns = elim interns.adds [
  | inl same ↦ grows_equal old new same
  | inr more ↦ (row ∷ [], more)
]

pub grows_interned : {A E : Type 0} → (result : Result ℕ E) (old new : List A) (row : A) → IfOk result (λ index. Interns old row index new) → OnErr result (new ≡ old) → Grows old new
grows_interned (Ok index) old new row interns same = interns_grows old new row index interns
grows_interned (Err error) old new row interns same = grows_equal old new same

pub at_kept : {A : Type 0} → (old new : List A) → Grows old new → (index : ℕ) (x : A) → slice_get old index ≡ Some x → slice_get new index ≡ Some x
at_kept old new grows index x at = ap (λ l. slice_get l index) grows.1 ∙ at_more old grows.0 index x at

-- The index of a key stays that of the key.
pub key_kept : (old new : List (List ℕ)) → Grows old new → (key : List ℕ) (number : Option ℤ) (index : ℕ) → IsKeyOf old key number index → IsKeyOf new key number index
key_kept old new grows key None index is = is
key_kept old new grows key (Some number) index is = at_kept old new grows index key is

-- What holds of a value that a call returned.
pub if_ok : {T E : Type 0} {P Q : T → Type 0} (result : Result T E) → ((value : T) → P value → Q value) → IfOk result P → IfOk result Q
if_ok (Ok value) step holds = step value holds
if_ok (Err error) step holds = holds
