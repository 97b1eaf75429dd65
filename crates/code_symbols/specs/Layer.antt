-- The symbols that layers give to addresses.
use Rattle.std.specs.Prelude.{ℕ, List, [], ◌∷◌, Option, None}
use Rattle.code_symbols.specs.Boundaries.{later_of, symbol_from}
use Rattle.code_symbols.specs.declared.layer.Layer.{Layer}

-- the symbol of a layer at an address
abbrev pub symbol_in : Layer → ℕ → Option ℕ
symbol_in l x = symbol_from None l.boundaries.items x

-- the symbol at an address in the last layer that has one, or `before` if no layer has one
abbrev pub symbol_in_layers_from : Option ℕ → List Layer → ℕ → Option ℕ
symbol_in_layers_from before [] x = before
symbol_in_layers_from before (l ∷ ls) x = symbol_in_layers_from (later_of before (symbol_in l x)) ls x

-- the symbol at an address in the last layer that has one
abbrev pub symbol_in_layers : List Layer → ℕ → Option ℕ
symbol_in_layers ls x = symbol_in_layers_from None ls x
