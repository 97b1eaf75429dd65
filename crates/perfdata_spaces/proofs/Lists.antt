-- Lists with one more element.
use Rattle.std.proofs.Common.{◌≡◌, ◌∙◌, ◌<◌, ap, refl, arith, ℕ, zero, suc, Bool, true, false, cond, List, [], ◌∷◌, ◌++◌, length, filter, slice_get, Option, Some, append_assoc}
use Rattle.std.proofs.lemmas.List.{append-nil}
use Rattle.std.proofs.lemmas.List.Concat.{flat_map-append}
use Rattle.std.specs.List.{flat_map, last_or}
use Rattle.perfdata_spaces.specs.Histories.{last_that}

pub slice_get_more : {A : Type 0} → (xs ys : List A) (index : ℕ) → index < length xs → slice_get (xs ++ ys) index ≡ slice_get xs index
slice_get_more [] ys index within = absurd (omega arith)
slice_get_more (x ∷ xs) ys zero within = refl
slice_get_more (x ∷ xs) ys (suc index) within = slice_get_more xs ys index (omega arith)

pub slice_get_last : {A : Type 0} → (xs : List A) (x : A) → slice_get (xs ++ x ∷ []) (length xs) ≡ Some x
slice_get_last [] x = refl
slice_get_last (y ∷ xs) x = slice_get_last xs x

last_or_push : {A : Type 0} → (test : A → Bool) (before : Option A) (xs : List A) (x : A) → last_or before (filter test (xs ++ x ∷ [])) ≡ cond (test x) (Some x) (last_or before (filter test xs))
last_or_push test before [] x = elim (test x) as (λ b. last_or before (cond b (x ∷ []) []) ≡ cond b (Some x) before) [ true ↦ refl | false ↦ refl ]
last_or_push test before (y ∷ ys) x =
    elim (test y) as (λ b. last_or before (cond b (y ∷ filter test (ys ++ x ∷ [])) (filter test (ys ++ x ∷ []))) ≡ cond (test x) (Some x) (last_or before (cond b (y ∷ filter test ys) (filter test ys)))) [
      | true ↦ last_or_push test (Some y) ys x
      | false ↦ last_or_push test before ys x
    ]

pub last_that_push : {A : Type 0} → (test : A → Bool) (xs : List A) (x : A) → last_that test (xs ++ x ∷ []) ≡ cond (test x) (Some x) (last_that test xs)
last_that_push test xs x = last_or_push test _ xs x

pub flat_map_push : {X A : Type 0} → (f : X → List A) (xs : List X) (x : X) → flat_map f (xs ++ x ∷ []) ≡ flat_map f xs ++ f x
flat_map_push f xs x = flat_map-append f xs (x ∷ []) ∙ ap (λ ys. flat_map f xs ++ ys) (append-nil (f x))

-- One more element after a split.
pub split_push : {A : Type 0} → (xs earlier later : List A) (at x : A) → xs ≡ earlier ++ at ∷ later → xs ++ x ∷ [] ≡ earlier ++ at ∷ (later ++ x ∷ [])
split_push xs earlier later at x is = ap (λ ys. ys ++ x ∷ []) is ∙ append_assoc earlier (at ∷ later) (x ∷ [])

pub first_not_nil : {A : Type 0} → (xs ys : List A) → (xs ≡ [] → ⊥) → xs ++ ys ≡ [] → ⊥
first_not_nil [] ys some none = some refl
first_not_nil (x ∷ xs) ys some none = cc

pub second_not_nil : {A : Type 0} → (xs ys : List A) → (ys ≡ [] → ⊥) → xs ++ ys ≡ [] → ⊥
second_not_nil [] ys some none = some none
second_not_nil (x ∷ xs) ys some none = cc
