-- Steps of private functions: rows with an index or an id.
use Rattle.std.specs.Prelude.{◌≡◌, ℕ, ◌-◌, Bool, true, List, length, slice_get, Some}
use Rattle.indexmap.specs.IndexSet.{insert_key}
use Rattle.pprof.specs.Rows.{IsId}

-- The same, if rows are the same when a test says so.
pub record IdentifiesBy {A : Type 0} (eq : A → A → Bool) (old : List A) (row : A) (id : ℕ) (new : List A) : Type 0 where
  pub is_id : IsId id (length new)
  pub stored : (same : A) × (slice_get new (id - 1) ≡ Some same) × (eq row same ≡ true)
  pub adds : new ≡ insert_key eq old row
