-- Simpleperf's meta info: segments between NULs, alternately a key and its value, each of UTF-8. The last value of a key counts.
use Rattle.std.specs.Prelude.{◌≡◌, ℕ, ◌==◌, List, [], ◌∷◌, ◌++◌, Option, None, Result, Ok, Err, All}
use Rattle.std.specs.Borrow.{Bor}
use Rattle.std.specs.HashMap.{HashMap, get_by}
use Rattle.std.specs.List.{slice_split}
use Rattle.std.specs.Map.{update_all}
use Rattle.std.specs.Option.{option_map}
use Rattle.std.specs.Str.{IsUtf8, bytes_eq}
use Rattle.perfdata_sections.specs.declared.error.Error.{Error}
use Rattle.perfdata_sections.specs.declared.error.Error.TheVariants.{StringUtf8, Memory}

-- a key and its value
abbrev pub Pair : Type 0
Pair = List ℕ × List ℕ

-- the segments between NULs
abbrev pub nul_segments : List ℕ → List (List ℕ)
nul_segments bytes = slice_split (λ b. b == 0) bytes

-- pairs of consecutive segments, without a last segment that has no partner
abbrev pub pair_up : List (List ℕ) → List Pair
pair_up [] = []
pair_up (key ∷ []) = []
pair_up (key ∷ value ∷ more) = (key, value) ∷ pair_up more

-- the pairs in the bytes, in order
abbrev pub meta_pairs : List ℕ → List Pair
meta_pairs bytes = pair_up (nul_segments bytes)

-- the last value of a key
abbrev pub last_value : List Pair → List ℕ → Option (List ℕ)
last_value pairs key = update_all bytes_eq (λ _. None) pairs key

-- the value of a key in a map of strings
abbrev pub map_text_at : {S : Type 0} → HashMap (Bor (List ℕ)) (Bor (List ℕ)) S → List ℕ → Option (List ℕ)
map_text_at m key = option_map (λ v. v.now) (get_by (λ k. bytes_eq key k.now) m)

-- both are UTF-8
abbrev pub IsUtf8Pair : Pair → Type 0
IsUtf8Pair p = IsUtf8 p.0 × IsUtf8 p.1

-- the bytes are valid meta info, and this is its map
pub record IsMetaInfo {S : Type 0} (bytes : List ℕ) (m : HashMap (Bor (List ℕ)) (Bor (List ℕ)) S) : Type 0 where
  pub all_utf8 : All IsUtf8Pair (meta_pairs bytes)
  pub map : (key : List ℕ) → map_text_at m key ≡ last_value (meta_pairs bytes) key

-- The pairs begin with at least one of UTF-8.
pub record BeginsWithUtf8Pairs (pairs : List Pair) : Type 0 where
  pub before : List Pair
  pub last : Pair
  pub rest : List Pair
  pub split : pairs ≡ before ++ last ∷ rest
  pub before_utf8 : All IsUtf8Pair before
  pub last_utf8 : IsUtf8Pair last

-- the result of parsing; memory runs out only for a pair of UTF-8 whose earlier pairs are UTF-8 too
abbrev pub ParsesMetaInfo : {S : Type 0} → List ℕ → Result (HashMap (Bor (List ℕ)) (Bor (List ℕ)) S) Error → Type 0
ParsesMetaInfo bytes (Ok m) = IsMetaInfo bytes m
ParsesMetaInfo bytes (Err StringUtf8) = ¬ All IsUtf8Pair (meta_pairs bytes)
ParsesMetaInfo bytes (Err Memory) = BeginsWithUtf8Pairs (meta_pairs bytes)
ParsesMetaInfo bytes (Err _) = ⊥
