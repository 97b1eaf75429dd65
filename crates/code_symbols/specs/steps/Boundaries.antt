-- Steps of private functions: the symbols that boundaries of the address space give to addresses. A symbol is its index in a list.
use Rattle.std.specs.Prelude.{◌≡◌, ◌≤◌, ◌<◌, ℕ, ◌-◌, List, length, take, slice_index_or, None}
use Rattle.code_symbols.specs.declared.boundary.Boundary.{Boundary}
use Rattle.code_symbols.specs.Boundaries.{symbol_from}

-- the boundaries of a symbol over all others, from `start` up to `stop`, can replace the boundaries after the first `kept` ones
pub record IsAppendPoint (boundaries : List Boundary) (start stop kept : ℕ) : Type 0 where
  pub within : kept ≤ length boundaries
  pub last : (d : Boundary) → 0 < kept → (slice_index_or boundaries (kept - 1) d).start ≤ start
  pub before : (x : ℕ) → x < start → symbol_from None (take kept boundaries) x ≡ symbol_from None boundaries x
  pub after : (x : ℕ) → stop ≤ x → symbol_from None boundaries x ≡ None
