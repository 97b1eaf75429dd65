-- The lines of text files of symbols.
use Rattle.std.specs.Prelude.{◌≡◌, ◌≢◌, ◌⊎◌, ◌+◌, ◌<◌, ◌≤◌, ◌^◌, ℕ, List, ◌∷◌, ◌++◌, All, length, drop, slice_index}
use Rattle.std.specs.Str.Parse.{IsNumeral, digits_value}
use Rattle.code_symbols.specs.declared.symbol.Symbol.{Symbol}

-- hexadecimal digits, at least one, that write a number below 2^64
abbrev pub IsHex : List ℕ → Type 0
IsHex text = IsNumeral 16 text × (digits_value 16 text < 2 ^ 64)

-- the text starts with `0x` or `0X`
pub record HasHexPrefix (text : List ℕ) : Type 0 where
  pub two : 2 ≤ length text
  pub zero : slice_index text 0 ≡ 48
  pub letter : (slice_index text 1 ≡ 120) ⊎ (slice_index text 1 ≡ 88)

-- these are the bytes of the text after `0x` or `0X`, or all of them if it doesn't start with that
pub record AreDigitsOf (text digits : List ℕ) : Type 0 where
  pub after : HasHexPrefix text → digits ≡ drop 2 text
  pub whole : (¬ HasHexPrefix text) → digits ≡ text

-- the text writes this number below 2^64 in hexadecimal, with or without `0x` or `0X` before the digits
pub record WritesHex (text : List ℕ) (n : ℕ) : Type 0 where
  pub digits : List ℕ
  pub digits_of : AreDigitsOf text digits
  pub hex : IsHex digits
  pub value : n ≡ digits_value 16 digits

-- the first field of the bytes has this length: it ends before the first byte `separator`, or at the end if there is none
pub record IsFieldLen (bytes : List ℕ) (separator n : ℕ) : Type 0 where
  pub within : n ≤ length bytes
  pub field : (k : ℕ) → k < n → slice_index bytes k ≢ separator
  pub ends : n < length bytes → slice_index bytes n ≡ separator

-- the symbol of a line `START SIZE NAME` of a perf-PID.map file, which starts at this offset of the text
pub record IsMapLine (line : List ℕ) (offset : ℕ) (s : Symbol) : Type 0 where
  pub start_digits : List ℕ
  pub size_digits : List ℕ
  pub symbol_name : List ℕ
  pub start_field : All (λ b. b ≢ 32) start_digits
  pub size_field : All (λ b. b ≢ 32) size_digits
  pub line_is : line ≡ start_digits ++ 32 ∷ (size_digits ++ 32 ∷ symbol_name)
  pub start_is : WritesHex start_digits s.start
  pub size_is : WritesHex size_digits s.size
  pub some_name : 0 < length symbol_name
  pub name_from : s.name_start + length symbol_name ≡ offset + length line
  pub name_to : s.name_end ≡ offset + length line
