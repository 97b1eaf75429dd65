-- Steps of private functions: pairs of an identifier and the index of an attribute that lists it.
use Rattle.std.specs.Prelude.{◌≡◌, ◌≢◌, ℕ, ◌+◌, ◌<◌, ◌≤◌, ◌==◌, max, Bool, true, false, length, slice_index_or, List, [], ◌∷◌, ◌++◌, map, if◌then◌else◌, Option, None, Some}
use Rattle.std.specs.List.{AllAdjacentBelow}
use Rattle.std.specs.Option.{option_or}
use Rattle.linux_perf_data.specs.Attribute.{Attribute, lists_id}

-- The index of the last attribute that lists the identifier, where the first attribute has index `i`.
abbrev pub last_index_of_id : ℕ → ℕ → List Attribute → Option ℕ
last_index_of_id id i [] = None
last_index_of_id id i (a ∷ more) = option_or (last_index_of_id id (i + 1) more) (if lists_id id a.ids then Some i else None)

-- Each identifier that an attribute lists, with the attribute's index; the first attribute has index `i`.
abbrev pub id_pairs_of : ℕ → List Attribute → List (ℕ × ℕ)
id_pairs_of i [] = []
id_pairs_of i (a ∷ more) = map (λ id. (id, i)) a.ids ++ id_pairs_of (i + 1) more

-- One more than the greatest index paired with the identifier; 0 if there is none.
abbrev pub rank_of_id : ℕ → List (ℕ × ℕ) → ℕ
rank_of_id id [] = 0
rank_of_id id (p ∷ ps) = max (if p.0 == id then p.1 + 1 else 0) (rank_of_id id ps)

-- The pairs are sorted by identifier, and those of one identifier by index.
abbrev pub AreOrdered : List (ℕ × ℕ) → Type 0
AreOrdered ps = AllAdjacentBelow (λ p q. (p.0 ≤ q.0) × (p.0 ≡ q.0 → p.1 ≤ q.1)) ps (length ps)

-- The identifier in the pair at index `k`.
abbrev pub key_at : List (ℕ × ℕ) → ℕ → ℕ
key_at ps k = (slice_index_or ps k (0, 0)).0

-- Whether the pair at index `at` is the last one of its identifier.
abbrev pub TestsLastOfId : List (ℕ × ℕ) → ℕ → Bool → Type 0
TestsLastOfId ps at true = at + 1 < length ps → key_at ps at ≢ key_at ps (at + 1)
TestsLastOfId ps at false = (at + 1 < length ps) × (key_at ps at ≡ key_at ps (at + 1))

-- `at` is the insertion point of an identifier in ascending pairs: the index of its pair, or the index where its pair would be
-- inserted.
pub record IsInsertionPoint (ps : List (ℕ × ℕ)) (id at : ℕ) : Type 0 where
  pub in_bounds : at ≤ length ps
  pub below : (k : ℕ) → k < at → key_at ps k < id
  pub above : (k : ℕ) → at ≤ k → k < length ps → id ≤ key_at ps k

-- Whether the identifier's pair is at index `at`.
abbrev pub TestsPairAt : List (ℕ × ℕ) → ℕ → ℕ → Bool → Type 0
TestsPairAt ps id at true = (at < length ps) × (key_at ps at ≡ id)
TestsPairAt ps id at false = at < length ps → key_at ps at ≢ id
