-- The symbol of an address in a list of symbols.
use Rattle.std.specs.Prelude.{◌≡◌, ◌≤◌, ◌<◌, ◌⊎◌, ℕ, ◌+◌, List, [], ◌∷◌, ◌++◌, Option, None, Some, if◌then◌else◌, All, length, slice_range}
use Rattle.code_symbols.specs.Boundaries.{covers}
use Rattle.code_symbols.specs.declared.symbol.Symbol.{Symbol}

-- the symbol contains the address: it starts at or before it and ends after it, in integers without a bound
pub record Covers (s : Symbol) (x : ℕ) : Type 0 where
  pub starts : s.start ≤ x
  pub ends : x < s.start + s.size

-- this symbol, at this index of the list, contains the address, and none after it does
pub record IsLastCovering (symbols : List Symbol) (x i : ℕ) (s : Symbol) : Type 0 where
  pub before : List Symbol
  pub after : List Symbol
  pub list : symbols ≡ before ++ s ∷ after
  pub index : i ≡ length before
  pub covers_address : Covers s x
  pub last : All (λ t. ¬ Covers t x) after

-- the index of the last symbol that contains the address, or `None` exactly if none contains it
abbrev pub IsLastIndex : List Symbol → ℕ → Option ℕ → Type 0
IsLastIndex symbols x None = All (λ s. ¬ Covers s x) symbols
IsLastIndex symbols x (Some i) = (s : Symbol) × IsLastCovering symbols x i s

-- the last symbol that contains the address, or `None` exactly if none contains it
abbrev pub IsLastSymbol : List Symbol → ℕ → Option Symbol → Type 0
IsLastSymbol symbols x None = All (λ s. ¬ Covers s x) symbols
IsLastSymbol symbols x (Some s) = (i : ℕ) × IsLastCovering symbols x i s

-- the name of a symbol whose table has these names: the bytes between its offsets, or none if these aren't within the names
pub record IsName (names : List ℕ) (s : Symbol) (n : List ℕ) : Type 0 where
  pub within : s.name_start ≤ s.name_end → s.name_end ≤ length names → n ≡ slice_range names s.name_start s.name_end
  pub outside : (s.name_end < s.name_start) ⊎ (length names < s.name_end) → n ≡ []

-- the name of the last symbol that contains the address, or `None` exactly if none contains it
abbrev pub IsLastName : List ℕ → List Symbol → ℕ → Option (List ℕ) → Type 0
IsLastName names symbols x None = All (λ s. ¬ Covers s x) symbols
IsLastName names symbols x (Some n) = (s : Symbol) × IsLastSymbol symbols x (Some s) × IsName names s n

-- this is the start of the first symbol with this name
pub record IsFirstNamed (names : List ℕ) (symbols : List Symbol) (n : List ℕ) (start : ℕ) : Type 0 where
  pub before : List Symbol
  pub symbol : Symbol
  pub after : List Symbol
  pub list : symbols ≡ before ++ symbol ∷ after
  pub named : IsName names symbol n
  pub start_is : start ≡ symbol.start
  pub first : All (λ s. ¬ IsName names s n) before

-- the start of the first symbol with this name, or `None` exactly if none has it
abbrev pub IsFirstStart : List ℕ → List Symbol → List ℕ → Option ℕ → Type 0
IsFirstStart names symbols n None = All (λ s. ¬ IsName names s n) symbols
IsFirstStart names symbols n (Some start) = IsFirstNamed names symbols n start

-- the index of the last symbol that contains the address, where the first symbol has index `i`; `before` if none does
abbrev pub last_from : ℕ → Option ℕ → List Symbol → ℕ → Option ℕ
last_from i before [] x = before
last_from i before (s ∷ ss) x = last_from (i + 1) (if covers s.start s.size x then Some i else before) ss x
