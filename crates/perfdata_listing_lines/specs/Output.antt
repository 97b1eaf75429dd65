-- Output to a writer that may fail, and the output at the end of the program.
use Rattle.std.specs.Prelude.{◌≡◌, ℕ, ◌<◌, ◌==◌, List, length, take, count_by, Option, Result, Ok, Err}
use Rattle.std.specs.Io.KnownBytes.{Appends, Keeps}
use Rattle.perfdata_listing_lines.specs.ListingLine.{error_text}

-- a proper prefix of the bytes is appended
pub record AppendsPrefix (old new : Option (List ℕ)) (bytes : List ℕ) : Type 0 where
  pub count : ℕ
  pub is_partial : count < length bytes
  pub appends : Appends old new (take count bytes)

-- what writing all bytes does: they are appended, or a proper prefix of them if the write fails
abbrev pub WritesAll : {T E : Type 0} → Option (List ℕ) → Option (List ℕ) → List ℕ → Result T E → Type 0
WritesAll old new bytes (Ok x) = Appends old new bytes
WritesAll old new bytes (Err e) = AppendsPrefix old new bytes

-- The output at the end of the program, and its exit status: none and 0 on success, the error's line and 2 after an error,
-- which contains the number of records before it.
abbrev pub Finishes : {E : Type 0} → Option (List ℕ) → Option (List ℕ) → Result ℕ ℕ → Result ℕ E → Type 0
Finishes old new (Ok n) status = (status ≡ Ok 0) × Keeps old new
Finishes old new (Err n) (Ok status) = (status ≡ 2) × Appends old new (error_text n)
Finishes old new (Err n) (Err e) = AppendsPrefix old new (error_text n)

-- the number of newlines in the bytes
abbrev pub newline_count : List ℕ → ℕ
newline_count bytes = count_by (λ b. b == 10) bytes
