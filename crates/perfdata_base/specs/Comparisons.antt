-- How `==`, hashes and orders of a type depend on a number of each value.
use Rattle.std.specs.Prelude.{◌≡◌, ℕ, ◌==◌, Bool, Option, Some, List}
use Rattle.std.specs.Ordering.{nat_cmp}
use Rattle.std.specs.declared.cmp.Ordering.{Ordering}
use Rattle.perfdata_identifiers.specs.declared.features.Feature.{Feature}
use Rattle.perfdata_identifiers.specs.contracts.features.FeaturePartialEq.TheImpl as feature_equality
use Rattle.perfdata_identifiers.specs.contracts.features.FeatureHash.TheImpl as feature_hash
use Rattle.perfdata_identifiers.specs.contracts.features.FeaturePartialOrd.TheImpl as feature_partial_order
use Rattle.perfdata_identifiers.specs.contracts.features.FeatureOrd.TheImpl as feature_order

module _ {A : Type 0} (number : A → ℕ) where
  -- Two values are equal if and only if their numbers are.
  abbrev pub EqualByNumber : (A → A → Bool) → Type 0
  EqualByNumber eq = (x y : A) → eq x y ≡ (number x == number y)

  -- Values with the same number, and so equal ones, have the same hash: `input` is what is hashed of a value.
  abbrev pub HashesByNumber : (A → List (List ℕ)) → Type 0
  HashesByNumber input = (x y : A) → number x ≡ number y → input x ≡ input y

  -- Two values compare as their numbers do.
  abbrev pub OrderedByNumber : (A → A → Option Ordering) → (A → A → Ordering) → Type 0
  OrderedByNumber partial_cmp cmp = (x y : A) → (cmp x y ≡ nat_cmp (number x) (number y)) × (partial_cmp x y ≡ Some (cmp x y))

abbrev pub feature_number : Feature → ℕ
feature_number feature = feature.0

-- `==` compares features by their numbers.
abbrev pub FeaturesEqualByNumber : Type 0
FeaturesEqualByNumber = EqualByNumber feature_number feature_equality.ghosts.eq

-- Equal features have the same hash.
abbrev pub FeaturesHashByNumber : Type 0
FeaturesHashByNumber = HashesByNumber feature_number feature_hash.ghosts.hash_input

-- The order of features is that of their numbers.
abbrev pub FeaturesOrderedByNumber : Type 0
FeaturesOrderedByNumber = OrderedByNumber feature_number feature_partial_order.ghosts.partial_cmp feature_order.ghosts.cmp
