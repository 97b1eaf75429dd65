-- Counts, and what is written into arrays.
use Rattle.std.specs.Prelude.{ℕ, ◌-◌, ◌^◌, List, [], ◌∷◌, length, min}

-- A number, or the greatest of 64 bits if it is greater.
abbrev pub saturated : ℕ → ℕ
saturated n = min n (2 ^ 64 - 1)

-- The number of elements.
abbrev pub count_of : {T : Type 0} → List T → ℕ
count_of items = saturated (length items)

-- The elements of two lists are related one by one.
abbrev pub AreRelated : {A B : Type 0} → (A → B → Type 0) → List A → List B → Type 0
AreRelated relation [] [] = Unit {0}
AreRelated relation [] (y ∷ ys) = ⊥
AreRelated relation (x ∷ xs) [] = ⊥
AreRelated relation (x ∷ xs) (y ∷ ys) = relation x y × AreRelated relation xs ys
