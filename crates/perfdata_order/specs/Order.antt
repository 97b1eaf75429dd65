-- Lists of entries in order of their keys. An entry is a key and a value.
use Rattle.std.specs.Prelude.{◌≡◌, Bool, true, false, List, [], ◌∷◌, Option, None, Some, All, if◌then◌else◌}
use Rattle.std.specs.declared.cmp.Ordering.{Ordering}
use Rattle.std.specs.Ordering.{is_le}
use Rattle.std.specs.List.Sorted.{IsPermutation, IsStableByKey}

-- The greater of the greatest key so far and one more key.
abbrev pub greatest_with : {K : Type 0} → (K → K → Ordering) → Option K → K → K
greatest_with cmp None key = key
greatest_with cmp (Some greatest) key = if is_le (cmp greatest key) then key else greatest

module _ {K V : Type 0} (cmp : K → K → Ordering) where
  -- The key of the first entry is at most that of the second.
  abbrev pub IsAtMost : K × V → K × V → Type 0
  IsAtMost a b = is_le (cmp a.0 b.0) ≡ true

  -- No entry has a smaller key than one before it.
  abbrev pub Ascends : List (K × V) → Type 0
  Ascends [] = Unit {0}
  Ascends (e ∷ es) = All (IsAtMost e) es × Ascends es

  -- Whether the key of the entry is at most the limit. Without a limit, it is not.
  abbrev pub is_within : Option K → K × V → Bool
  is_within None e = false
  is_within (Some limit) e = is_le (cmp e.0 limit)

  -- The entries were sorted by their keys. Equal keys keep their order.
  pub record SortsEntries (old new : List (K × V)) : Type 0 where
    pub each_once : IsPermutation old new
    pub ascends : Ascends new
    pub stable : IsStableByKey (λ (e : K × V). e.0) cmp old new
