-- The next boundary of two lists of boundaries: the one with the lower start, and of two with one start that of the lower list.
use Rattle.std.specs.Prelude.{◌≡◌, ◌≤◌, ◌<◌, ◌+◌, List, length, slice_index_or}
use Rattle.code_symbols.specs.declared.boundary.Boundary.{Boundary}
use Rattle.code_symbols.specs.declared.merge.MergeState.{MergeState}

module _ (lower upper : List Boundary) (old new : MergeState) where
  -- the next boundary is that of the lower list
  pub record TakesLower : Type 0 where
    pub boundary : Boundary
    pub some : old.lower_count < length lower
    pub is_boundary : boundary ≡ slice_index_or lower old.lower_count boundary
    pub least : (d : Boundary) → old.upper_count < length upper → boundary.start ≤ (slice_index_or upper old.upper_count d).start
    pub state : new ≡ record old { lower_count = old.lower_count + 1; start = boundary.start; below = boundary.symbol }

  -- the next boundary is that of the upper list
  pub record TakesUpper : Type 0 where
    pub boundary : Boundary
    pub some : old.upper_count < length upper
    pub is_boundary : boundary ≡ slice_index_or upper old.upper_count boundary
    pub least : (d : Boundary) → old.lower_count < length lower → boundary.start ≤ (slice_index_or lower old.lower_count d).start
    pub state : new ≡ record old { upper_count = old.upper_count + 1; start = boundary.start; above = boundary.symbol }
