-- Steps of private functions: encoded pointers (Linux Standard Base, DWARF exception header encoding).
use Rattle.std.specs.Prelude.{ℕ, ◌-◌, List}
use Rattle.code_cfi.specs.declared.pointers.Format.{Format}
use Rattle.code_cfi.specs.Pointers.{FormatAt, EncodedAt, PointerAt}

-- the bytes start with no such number or address: the encoding is unknown, or they are no number in its format
abbrev pub NoFormat : Format → List ℕ → Type 0
NoFormat format bytes = (n : ℕ) (rest : List ℕ) → FormatAt format bytes n rest → ⊥

abbrev pub NoEncoded : ℕ → List ℕ → Type 0
NoEncoded encoding bytes = (n : ℕ) (rest : List ℕ) → EncodedAt encoding bytes n rest → ⊥

abbrev pub NoPointer : ℕ → ℕ → List ℕ → Type 0
NoPointer encoding address bytes = (n : ℕ) (rest : List ℕ) → PointerAt encoding address bytes n rest → ⊥
