-- Tables in which each item stands once: ids and items are in one-to-one correspondence.
use Rattle.std.specs.Prelude.{◌≡◌, ℕ, List, [], ◌∷◌, ◌++◌, ◌⊎◌, slice_get, Some}

-- No item has two ids.
abbrev pub IsOnce : {A : Type 0} → List A → Type 0
IsOnce {A} items = (first second : ℕ) (item : A) → slice_get items first ≡ Some item → slice_get items second ≡ Some item → first ≡ second

-- Items are added after those that were there, which keep their ids.
abbrev pub Grows : {A : Type 0} → List A → List A → Type 0
Grows {A} old new = ((more : List A) × (new ≡ old ++ more))

-- An item has an id: the one that it had or, if it is new, the next one. Other items keep theirs.
pub record Interns {A : Type 0} (old : List A) (item : A) (id : ℕ) (new : List A) : Type 0 where
  pub is_at : slice_get new id ≡ Some item
  pub adds : (new ≡ old) ⊎ (new ≡ old ++ item ∷ [])
