-- Which file is the recorded one.
use Rattle.std.specs.Prelude.{◌≡◌, ◌≢◌, ◌⊎◌, ◌++◌, ℕ, List, [], All}

-- A build id is another one with zeros after it: old recordings have 20 bytes of it, whatever its size.
pub record IsExtended (long short : List ℕ) : Type 0 where
  pub rest : List ℕ
  pub is : long ≡ short ++ rest
  pub zeros : All (λ byte. byte ≡ 0) rest

-- A file with this build id is the one with the recorded build id.
pub record IsRecorded (id recorded : List ℕ) : Type 0 where
  pub has_id : id ≢ []
  pub same : IsExtended id recorded ⊎ IsExtended recorded id

-- A file with this build id is used: no build id is recorded, or it is the recorded one.
abbrev pub IsAccepted : List ℕ → List ℕ → Type 0
IsAccepted id recorded = (recorded ≡ []) ⊎ IsRecorded id recorded
