-- Where LEB128 numbers end, and how runs end.
use Rattle.std.proofs.Common.{◌≡◌, ℕ, ◌-◌, ◌<◌, List, [], ◌∷◌, length, take, drop, length-drop, subst, Result, Ok, Err, refl, sym, ap, ◌∙◌, inl, arith}
use Rattle.std.proofs.lemmas.List.{take_all}
use Rattle.std.specs.Prelude.{IfOk, IfErr}
use Rattle.code_cfi.specs.Numbers.{Uleb128At}
use Rattle.code_unwind.specs.Expressions.{Context, Moment, NextAt, EndsWith, Spends}
use Rattle.code_unwind.specs.Operations.{OperationAt}
use Rattle.code_unwind.specs.steps.ExpressionStack.{Leaves}
use Rattle.code_unwind.specs.declared.expression.ExpressionError.{ExpressionError}
use Rattle.code_unwind.specs.declared.expression.ExpressionError.TheVariants as errors
use Rattle.code_unwind.specs.declared.operation.Operation.{Operation}
use Rattle.code_cfi.proofs.UniqueNumbers.{leb128_size_same}

pub uleb128_rest : (bytes : List ℕ) (m n : ℕ) (left right : List ℕ) → Uleb128At bytes m left → Uleb128At bytes n right → left ≡ right
uleb128_rest bytes m n left right p q =
    p.after ∙ ap (λ k. drop k bytes) (leb128_size_same bytes p.size q.size p.encoded q.encoded) ∙ sym q.after

-- the bytes from an offset on
pub bytes_from : (bytes : List ℕ) (k : ℕ) → take (length bytes - k) (drop k bytes) ≡ drop k bytes
bytes_from bytes k = take_all (length bytes - k) (drop k bytes) (omega (arith, length-drop k bytes))

-- the operation that was read at a moment
pub next_at : (x : Context) (m : Moment) (op : Operation) (rest : List ℕ) → m.position < length x.bytes → 0 < m.remaining → OperationAt (take (length x.bytes - m.position) (drop m.position x.bytes)) op rest → length rest < length (take (length x.bytes - m.position) (drop m.position x.bytes)) → NextAt x m op (length x.bytes - length rest)
next_at x m op rest within allowed at shorter =
    let all = bytes_from x.bytes m.position in
    let At : List ℕ → Type 0 = λ bytes. OperationAt bytes op rest in
    record {
      rest = rest;
      within = within;
      allowed = allowed;
      operation_at = subst At all at;
      after_is = omega (arith, shorter, ap length all, length-drop m.position x.bytes);
    }

-- what a call that changes the stack was to leave
pub leaves_ok : (r : Result (List ℕ) ExpressionError) (new : List ℕ) (u : Unit {0}) → Leaves r new (Ok u) → r ≡ Ok new
leaves_ok (Ok s) new u h = ap Ok (sym h)
leaves_ok (Err f) new u h = absurd h

pub leaves_err : (r : Result (List ℕ) ExpressionError) (new : List ℕ) (e : ExpressionError) → Leaves r new (Err e) → r ≡ Err e
leaves_err (Ok s) new e h = absurd h
leaves_err (Err f) new e h = ap Err (sym h)

-- the value on top, if there is one, is the value of the expression
pub ends_with_top : (x : Context) (m : Moment) (r : Result ℕ ExpressionError) (rest : List ℕ) → m.position ≡ length x.bytes → IfOk r (λ v. m.stack ≡ v ∷ rest) → IfErr r (λ e. (e ≡ errors.Bad) × (m.stack ≡ [])) → EndsWith x m r
ends_with_top x m (Ok v) rest end found none = (end, (rest, found))
ends_with_top x m (Err e) rest end found none = inl (end, none.1, none.0)

pub spends_same : (m : Moment) (r : Result ℕ ExpressionError) → Spends m r m.remaining
spends_same m (Ok v) = refl
spends_same m (Err e) = omega arith
