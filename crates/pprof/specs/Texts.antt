-- Texts of which each is stored once.
use Rattle.std.specs.Prelude.{◌≡◌, ℕ, List, [], slice_get, Some}
use Rattle.pprof.specs.Rows.{AreDistinct}

-- The first text is empty, and no text is there twice.
pub record AreStrings (texts : List (List ℕ)) : Type 0 where
  pub first : slice_get texts 0 ≡ Some []
  pub once : AreDistinct texts
