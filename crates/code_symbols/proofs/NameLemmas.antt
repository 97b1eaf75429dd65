-- Names of symbols.
use Rattle.std.proofs.Common.{◌≡◌, ℕ, inl, inr, List, length, sym, ◌∙◌}
use Rattle.std.proofs.lemmas.Bool.{cases_lt}
use Rattle.code_symbols.specs.declared.symbol.Symbol.{Symbol}
use Rattle.code_symbols.specs.Symbols.{IsName}

-- a symbol has one name
pub name_unique : (names : List ℕ) (s : Symbol) (m n : List ℕ) → IsName names s m → IsName names s n → m ≡ n
name_unique names s m n x y = elim (cases_lt s.name_end s.name_start) [
  | inl before ↦ x.outside (inl before) ∙ sym (y.outside (inl before))
  | inr ordered ↦ elim (cases_lt (length names) s.name_end) [
    | inl past ↦ x.outside (inr past) ∙ sym (y.outside (inr past))
    | inr within ↦ x.within ordered within ∙ sym (y.within ordered within)
  ]
]
