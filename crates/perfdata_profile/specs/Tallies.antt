-- What is counted under which key, and the sums of each key.
use Rattle.std.specs.Prelude.{◌≡◌, ℕ, ◌+◌, List, [], ◌∷◌, ◌⊎◌, length, slice_get, Some}
use Rattle.std.specs.List.{sum_by}
use Rattle.perfdata_profile.specs.declared.sums.Sums.{Sums}

-- Something that is counted under a key, with its weight.
pub record Counted (K : Type 0) : Type 0 where
  pub key : K
  pub weight : ℕ

-- A number is the sum of the weights of those elements of a list of which something holds.
module _ {A : Type 0} (holds : A → Type 0) (weight : A → ℕ) where
  abbrev pub IsSumOf : List A → ℕ → Type 0
  IsSumOf [] sum = sum ≡ 0
  IsSumOf (x ∷ xs) sum = ((rest : ℕ) × IsSumOf xs rest
      × ((holds x × (sum ≡ rest + weight x)) ⊎ ((holds x → ⊥) × (sum ≡ rest))))

module _ {K : Type 0} where
  -- Whether something is counted under a key.
  abbrev pub IsUnder : K → Counted K → Type 0
  IsUnder key counted = counted.key ≡ key

  abbrev pub weight_of : Counted K → ℕ
  weight_of counted = counted.weight

  -- Each counts as one sample.
  abbrev pub one_sample : Counted K → ℕ
  one_sample counted = 1

  -- The entries are the sums of all that is counted: the number of samples under each key, and their weight.
  pub record Tallies (counted : List (Counted K)) (entries : List (K × Sums)) : Type 0 where
    -- The sums of an entry are those of what is counted under its key.
    pub samples : (index : ℕ) (key : K) (sums : Sums) → slice_get entries index ≡ Some (key, sums)
        → IsSumOf (IsUnder key) one_sample counted sums.samples
    pub weights : (index : ℕ) (key : K) (sums : Sums) → slice_get entries index ≡ Some (key, sums)
        → IsSumOf (IsUnder key) weight_of counted sums.weight
    -- What is counted has an entry.
    pub all : (index : ℕ) (one : Counted K) → slice_get counted index ≡ Some one
        → ((at : ℕ) × (sums : Sums) × (slice_get entries at ≡ Some (one.key, sums)))
    -- Nothing else has one.
    pub only : (index : ℕ) (key : K) (sums : Sums) → slice_get entries index ≡ Some (key, sums)
        → ((at : ℕ) × (one : Counted K) × (slice_get counted at ≡ Some one) × (one.key ≡ key))
    -- A key has one entry.
    pub once : (first second : ℕ) (key : K) (sums others : Sums) → slice_get entries first ≡ Some (key, sums)
        → slice_get entries second ≡ Some (key, others) → first ≡ second
    -- Each column adds up to what is counted.
    pub sum_of_samples : sum_by (λ (entry : K × Sums). entry.1.samples) entries ≡ length counted
    pub sum_of_weights : sum_by (λ (entry : K × Sums). entry.1.weight) entries ≡ sum_by weight_of counted
