-- Steps of private functions: simpleperf's meta info: segments between NULs, alternately a key and its value, each of UTF-8. The last value of a key counts.
use Rattle.std.specs.Prelude.{◌≡◌, ℕ, List, [], ◌∷◌, ◌++◌, Result, Ok, Err}
use Rattle.std.specs.Borrow.{Bor}
use Rattle.std.specs.HashMap.{HashMap}
use Rattle.perfdata_sections.specs.declared.error.Error.{Error}
use Rattle.perfdata_sections.specs.declared.error.Error.TheVariants.{StringUtf8, Memory}
use Rattle.perfdata_simpleperf.specs.MetaInfo.{Pair, last_value, map_text_at, IsUtf8Pair}

-- On success, the new map has the last value of each key in any pairs and `p` if the old map has it in these pairs. An error
-- says that the pair isn't UTF-8, or that memory ran out for a pair of UTF-8.
abbrev pub InsertsPair : {S : Type 0} → HashMap (Bor (List ℕ)) (Bor (List ℕ)) S → Pair → Result (Unit {0}) Error → HashMap (Bor (List ℕ)) (Bor (List ℕ)) S
    → Type 0
InsertsPair old p (Ok _) new =
    IsUtf8Pair p × ((ps : List Pair) → ((key : List ℕ) → map_text_at old key ≡ last_value ps key) → (key : List ℕ)
    → map_text_at new key ≡ last_value (ps ++ p ∷ []) key)
InsertsPair old p (Err StringUtf8) new = ¬ IsUtf8Pair p
InsertsPair old p (Err Memory) new = IsUtf8Pair p
InsertsPair old p (Err _) new = ⊥
