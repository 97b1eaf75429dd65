-- The lines of a text, and the symbols that they describe.
use Rattle.std.specs.Prelude.{◌≡◌, ◌≢◌, ◌⊎◌, ◌-◌, ◌<◌, ◌≤◌, ℕ, List, All, Contains, length, slice_index, slice_index_or, slice_range}
use Rattle.code_symbols.specs.declared.symbol.Symbol.{Symbol}

-- a line of the text, without its newline, is from this offset up to this one
pub record IsLine (text : List ℕ) (from to : ℕ) : Type 0 where
  pub ascends : from ≤ to
  pub within : to ≤ length text
  pub starts : 0 < from → slice_index text (from - 1) ≡ 10
  pub one : (k : ℕ) → from ≤ k → k < to → slice_index text k ≢ 10
  pub ends : (to ≡ length text) ⊎ (slice_index text to ≡ 10)

-- a line of the text describes the symbol: `IsSymbol line offset s` says that a line at an offset does
pub record IsSymbolOfLine (IsSymbol : List ℕ → ℕ → Symbol → Type 0) (text : List ℕ) (s : Symbol) : Type 0 where
  pub from : ℕ
  pub to : ℕ
  pub is_line : IsLine text from to
  pub is_symbol : IsSymbol (slice_range text from to) from s

-- the names of the symbols are in this order in the text, and no two at one offset
abbrev pub IsInTextOrder : List Symbol → Type 0
IsInTextOrder symbols = (i j : ℕ) (d : Symbol) → i < j → j < length symbols → (slice_index_or symbols i d).name_start < (slice_index_or symbols j d).name_start

-- these are exactly the symbols that lines of the text describe, in the order of the lines
pub record AreSymbolsOfLines (IsSymbol : List ℕ → ℕ → Symbol → Type 0) (text : List ℕ) (symbols : List Symbol) : Type 0 where
  pub each : All (IsSymbolOfLine IsSymbol text) symbols
  pub every : (s : Symbol) → IsSymbolOfLine IsSymbol text s → Contains symbols s
  pub in_order : IsInTextOrder symbols
