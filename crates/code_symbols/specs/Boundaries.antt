-- The symbols that boundaries of the address space give to addresses. A symbol is its index in a list.
use Rattle.std.specs.Prelude.{ℕ, ◌+◌, Bool, ◌&&◌, List, [], ◌∷◌, Option, None, Some, if◌then◌else◌, nat_le, nat_lt}
use Rattle.code_symbols.specs.declared.boundary.Boundary.{Boundary}

-- the second symbol if there is one, otherwise the first
abbrev pub later_of : Option ℕ → Option ℕ → Option ℕ
later_of earlier (Some i) = Some i
later_of earlier None = earlier

-- the symbol of the last boundary that starts at or before the address, or `before` if no boundary does
abbrev pub symbol_from : Option ℕ → List Boundary → ℕ → Option ℕ
symbol_from before [] x = before
symbol_from before (c ∷ cs) x = symbol_from (if nat_le c.start x then c.symbol else before) cs x

-- `size` addresses from `start` on contain the address
abbrev pub covers : ℕ → ℕ → ℕ → Bool
covers start size x = nat_le start x && nat_lt x (start + size)
