-- The kernel's list of symbols.
use Rattle.std.specs.Prelude.{◌≡◌, ◌≢◌, ◌⊎◌, ◌+◌, ◌-◌, ◌<◌, ◌≤◌, ◌^◌, ℕ, List, [], ◌∷◌, ◌++◌, All, drop, if◌then◌else◌, length, map, nat_lt, slice_index}
use Rattle.std.specs.List.Sorted.{IsNonDecreasingBy, IsPermutation, IsStableByKey}
use Rattle.std.specs.Ordering.{nat_cmp}
use Rattle.std.specs.Str.Parse.{digits_value}
use Rattle.code_symbols.specs.Lines.{AreSymbolsOfLines}
use Rattle.code_symbols.specs.Text.{IsFieldLen, IsHex}
use Rattle.code_symbols.specs.declared.symbol.Symbol.{Symbol}

-- symbols of this type are code or data: T, t, W, w, D, d, B or b
abbrev pub IsListedType : ℕ → Type 0
IsListedType t = (t ≡ 84) ⊎ (t ≡ 116) ⊎ (t ≡ 87) ⊎ (t ≡ 119) ⊎ (t ≡ 68) ⊎ (t ≡ 100) ⊎ (t ≡ 66) ⊎ (t ≡ 98)

-- what follows the address in a line: such a type, a space, and a name that doesn't start with `$`
pub record IsListed (rest : List ℕ) : Type 0 where
  pub long : 3 ≤ length rest
  pub listed_type : IsListedType (slice_index rest 0)
  pub space : slice_index rest 1 ≡ 32
  pub no_marker : slice_index rest 2 ≢ 36

-- the symbol, of size 0, of a line `ADDRESS TYPE NAME`, which starts at this offset of the text; a tab ends the name
pub record IsKernelLine (line : List ℕ) (offset : ℕ) (s : Symbol) : Type 0 where
  pub address : List ℕ
  pub rest : List ℕ
  pub name_len : ℕ
  pub address_field : All (λ b. b ≢ 32) address
  pub line_is : line ≡ address ++ 32 ∷ rest
  pub hex : IsHex address
  pub listed : IsListed rest
  pub name_is : IsFieldLen (drop 2 rest) 9 name_len
  pub some_name : 0 < name_len
  pub start_is : s.start ≡ digits_value 16 address
  pub size_is : s.size ≡ 0
  pub name_from : s.name_start ≡ offset + length address + 3
  pub name_to : s.name_end ≡ s.name_start + name_len

-- what follows a symbol's name in the text is a tab and this name of a module in brackets
pub record IsBracketed (after module_name : List ℕ) : Type 0 where
  pub rest : List ℕ
  pub field : All (λ b. b ≢ 93) module_name
  pub is : after ≡ 9 ∷ 91 ∷ (module_name ++ 93 ∷ rest)

-- the name of the module that follows a symbol's name, or none if no such name follows it
abbrev pub IsModuleName : List ℕ → List ℕ → Type 0
IsModuleName after module_name = IsBracketed after module_name ⊎ ((module_name ≡ []) × ((other : List ℕ) → ¬ IsBracketed after other))

-- the symbol with size 0
abbrev pub without_size : Symbol → Symbol
without_size s = record s { size = 0 }

-- the first start in the list that is greater than this one, or 2^64 - 1 if there is none
abbrev pub next_start : ℕ → List Symbol → ℕ
next_start x [] = 2 ^ 64 - 1
next_start x (s ∷ ss) = if nat_lt x s.start then s.start else next_start x ss

-- each symbol ends at the first greater start after it
abbrev pub ReachNext : List Symbol → Type 0
ReachNext [] = Unit {0}
ReachNext (s ∷ ss) = (s.start + s.size ≡ next_start s.start ss) × ReachNext ss

-- the symbols of the text's lines in the order of their starts, of one start in the order of the lines, each up to the next greater start
pub record AreKernelSymbols (text : List ℕ) (symbols : List Symbol) : Type 0 where
  pub listed : List Symbol
  pub sorted : List Symbol
  pub lines : AreSymbolsOfLines IsKernelLine text listed
  pub permuted : IsPermutation listed sorted
  pub ascends : IsNonDecreasingBy (λ s. s.start) sorted
  pub stable : IsStableByKey (λ s. s.start) nat_cmp listed sorted
  pub same : map without_size symbols ≡ map without_size sorted
  pub reach : ReachNext symbols
