-- Lists of boundaries that grow at their ends.
use Rattle.std.proofs.Common.{◌≡◌, ℕ, List, [], ◌∷◌, ◌++◌, refl, Option, Some, None}
use Rattle.std.specs.Prelude.{if◌then◌else◌, nat_le}
use Rattle.code_symbols.specs.Boundaries.{later_of, symbol_from}
use Rattle.code_symbols.specs.declared.boundary.Boundary.{Boundary}

-- the symbol after one more boundary
pub symbol_from-push : (b : Option ℕ) (cs : List Boundary) (c : Boundary) (x : ℕ) → symbol_from b (cs ++ c ∷ []) x ≡ (if nat_le c.start x then c.symbol else symbol_from b cs x)
symbol_from-push b [] c x = refl
symbol_from-push b (d ∷ cs) c x = symbol_from-push (if nat_le d.start x then d.symbol else b) cs c x

-- the choice of the later symbol is associative
pub later_of-assoc : (a b c : Option ℕ) → later_of (later_of a b) c ≡ later_of a (later_of b c)
later_of-assoc a b (Some i) = refl
later_of-assoc a b None = refl
