-- Types of records as rows of a table.
use Rattle.std.specs.Prelude.{◌≡◌, ◌==◌, ℕ, ◌⊎◌, Bool, true, false, List, [], ◌∷◌, ⊤}
use Rattle.std.specs.declared.io.ErrorKind.{ErrorKind}
use Rattle.perfdata_events.specs.Format.{Outcome, fails, fixed}

-- The number of a type, and the format of its fields.
pub record TypeRow : Type 1 where
  pub type_number : ℕ
  pub Value : Type 0
  pub fields : List ℕ → Outcome Value → Type 0

abbrev pub row : {V : Type 0} → ℕ → (List ℕ → Outcome V → Type 0) → TypeRow
row {V} type_number fields = record { type_number = type_number; Value = V; fields = fields }

-- For a number without a type: no fields.
abbrev pub empty_row : TypeRow
empty_row = row {V = ⊤} 0 (fixed 0 (λ _. tt))

abbrev pub row_or : Bool → TypeRow → TypeRow → TypeRow
row_or true found other = found
row_or false found other = other

-- The row of a type among these rows, or another row.
abbrev pub row_in : List TypeRow → TypeRow → ℕ → TypeRow
row_in [] other type_number = other
row_in (head ∷ rows) other type_number = row_or (type_number == head.type_number) head (row_in rows other type_number)

-- The type is that of one of these rows, and its fields have a first error of this kind.
abbrev pub FailsIn : List TypeRow → ℕ → List ℕ → ErrorKind → Type 0
FailsIn [] type_number xs kind = ⊥
FailsIn (last ∷ []) type_number xs kind = (type_number ≡ last.type_number) × last.fields xs (fails kind)
FailsIn (head ∷ (next ∷ rows)) type_number xs kind =
    ((type_number ≡ head.type_number) × head.fields xs (fails kind)) ⊎ FailsIn (next ∷ rows) type_number xs kind
