-- Rows with an index or an id.
use Rattle.std.specs.Prelude.{◌≡◌, ℕ, ◌+◌, ◌-◌, ◌<◌, ◌≤◌, List, [], ◌∷◌, ◌++◌, ◌⊎◌, length, slice_get, Some}

-- No row is there twice.
abbrev pub AreDistinct : {A : Type 0} → List A → Type 0
AreDistinct {A} rows = (first second : ℕ) (row : A) → slice_get rows first ≡ Some row → slice_get rows second ≡ Some row → first ≡ second

-- No row is this one.
abbrev pub IsAbsent : {A : Type 0} → List A → A → Type 0
IsAbsent rows row = (index : ℕ) → slice_get rows index ≡ Some row → ⊥

-- A row has an index. It alone may be appended, so other rows keep theirs.
pub record Interns {A : Type 0} (old : List A) (row : A) (index : ℕ) (new : List A) : Type 0 where
  pub is_at : slice_get new index ≡ Some row
  pub adds : (new ≡ old) ⊎ (new ≡ old ++ row ∷ [])

-- Rows may be appended, so the others keep their indices.
abbrev pub Grows : {A : Type 0} → List A → List A → Type 0
Grows {A} old new = (more : List A) × (new ≡ old ++ more)

-- A number is the id of one of some rows.
pub record IsId (id count : ℕ) : Type 0 where
  pub positive : 0 < id
  pub within : id ≤ count

-- A row has an id, which is its index and 1.
pub record Identifies {A : Type 0} (old : List A) (row : A) (id : ℕ) (new : List A) : Type 0 where
  pub is_id : IsId id (length new)
  pub interns : Interns old row (id - 1) new

-- The rows with their ids, of which the first is `id`.
abbrev pub numbered : {A B : Type 0} → (ℕ → A → B) → ℕ → List A → List B
numbered with_id id [] = []
numbered with_id id (row ∷ rows) = with_id id row ∷ numbered with_id (id + 1) rows
