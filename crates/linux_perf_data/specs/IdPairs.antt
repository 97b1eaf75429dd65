-- Pairs of an identifier and the index of an attribute that lists it.
use Rattle.std.specs.Prelude.{ℕ, ◌<◌, ◌==◌, List, [], ◌∷◌, if◌then◌else◌, Option, None, Some}
use Rattle.std.specs.List.{AllPairs}

-- The index in the first pair with this identifier.
abbrev pub index_of_id : ℕ → List (ℕ × ℕ) → Option ℕ
index_of_id id [] = None
index_of_id id (p ∷ ps) = if p.0 == id then Some p.1 else index_of_id id ps

-- The identifiers are strictly ascending, and thus unique.
abbrev pub AreAscending : List (ℕ × ℕ) → Type 0
AreAscending ps = AllPairs (λ p q. p.0 < q.0) ps
