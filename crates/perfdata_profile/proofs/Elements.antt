-- Elements of lists by index.
use Rattle.std.proofs.Common.{◌≡◌, ◌+◌, ◌⊎◌, inl, inr, ap, refl, sym, arith, ℕ, zero, suc, List, [], ◌∷◌, ◌++◌, length, slice_get, Option, Some}
use Rattle.std.specs.Option.{unwrap_or}
use Rattle.std.specs.List.{sum_by}
use Rattle.std.proofs.lemmas.List.Sums.{sum_by-cons}
use Rattle.indexmap.specs.IndexMap.{set_value_at}

pub some_same : {A : Type 0} (x y : A) → Some x ≡ Some y → x ≡ y
some_same {A} x y is = ap (λ (o : Option A). unwrap_or o x) is

pub slice_get_more : {A : Type 0} → (xs ys : List A) (index : ℕ) (x : A) → slice_get xs index ≡ Some x → slice_get (xs ++ ys) index ≡ Some x
slice_get_more [] ys index x is = cc
slice_get_more (y ∷ xs) ys zero x is = is
slice_get_more (y ∷ xs) ys (suc index) x is = slice_get_more xs ys index x is

pub slice_get_last : {A : Type 0} → (xs : List A) (x : A) → slice_get (xs ++ x ∷ []) (length xs) ≡ Some x
slice_get_last [] x = refl
slice_get_last (y ∷ xs) x = slice_get_last xs x

-- An element of a list with one more element is one of the list, or the last one.
pub old_or_last : {A : Type 0} → (xs : List A) (y : A) (index : ℕ) (x : A) → slice_get (xs ++ y ∷ []) index ≡ Some x → (slice_get xs index ≡ Some x) ⊎ ((index ≡ length xs) × (x ≡ y))
old_or_last [] y zero x is = inr (refl, sym (some_same y x is))
old_or_last [] y (suc index) x is = cc
old_or_last (z ∷ xs) y zero x is = inl is
old_or_last (z ∷ xs) y (suc index) x is = elim (old_or_last xs y index x is) [
  | inl old ↦ inl old
  | inr last ↦ inr (omega (arith, last.0), last.1)
]

pub set_here : {K X : Type 0} → (es : List (K × X)) (index : ℕ) (key : K) (old new : X) → slice_get es index ≡ Some (key, old) → slice_get (set_value_at es index new) index ≡ Some (key, new)
set_here [] index key old new is = cc
set_here {K} {X} (e ∷ es) zero key old new is = ap (λ (o : Option (K × X)). Some ((unwrap_or o e).0, new)) is
set_here (e ∷ es) (suc index) key old new is = set_here es index key old new is

pub set_elsewhere : {K X : Type 0} → (es : List (K × X)) (index other : ℕ) (new : X) → (other ≡ index → ⊥) → slice_get (set_value_at es index new) other ≡ slice_get es other
set_elsewhere [] index other new apart = refl
set_elsewhere (e ∷ es) zero zero new apart = absurd (apart refl)
set_elsewhere (e ∷ es) zero (suc other) new apart = refl
set_elsewhere (e ∷ es) (suc index) zero new apart = refl
set_elsewhere (e ∷ es) (suc index) (suc other) new apart = set_elsewhere es index other new (λ is. apart (ap suc is))

-- An entry keeps its key as the value of one is set.
pub set_keeps : {K X : Type 0} → (es : List (K × X)) (index : ℕ) (new : X) (other : ℕ) (key : K) (old : X) → slice_get es other ≡ Some (key, old) → ((now : X) × (slice_get (set_value_at es index new) other ≡ Some (key, now)))
set_keeps [] index new other key old is = cc
set_keeps {K} {X} (e ∷ es) zero new zero key old is = (new, ap (λ (o : Option (K × X)). Some ((unwrap_or o e).0, new)) is)
set_keeps (e ∷ es) zero new (suc other) key old is = (old, is)
set_keeps (e ∷ es) (suc index) new zero key old is = (old, is)
set_keeps (e ∷ es) (suc index) new (suc other) key old is = set_keeps es index new other key old is

pub sum_set : {K X : Type 0} → (f : X → ℕ) (es : List (K × X)) (index : ℕ) (key : K) (old new : X) → slice_get es index ≡ Some (key, old) → sum_by (λ (e : K × X). f e.1) (set_value_at es index new) + f old ≡ sum_by (λ (e : K × X). f e.1) es + f new
sum_set f [] index key old new is = cc
sum_set {K} {X} f (e ∷ es) zero key old new is =
    let same : f e.1 ≡ f old = ap (λ (o : Option (K × X)). f ((unwrap_or o e).1)) is in
    let left = sum_by-cons (λ (p : K × X). f p.1) (e.0, new) es in
    let right = sum_by-cons (λ (p : K × X). f p.1) e es in
    omega (arith, same, left, right)
sum_set {K} {X} f (e ∷ es) (suc index) key old new is =
    let rest = sum_set f es index key old new is in
    let left = sum_by-cons (λ (p : K × X). f p.1) e (set_value_at es index new) in
    let right = sum_by-cons (λ (p : K × X). f p.1) e es in
    omega (arith, rest, left, right)
