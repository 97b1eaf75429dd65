-- How values are encoded: which value bytes start with, or what their first error is.
use Rattle.std.specs.Prelude.{◌≡◌, ℕ, ◌<◌, ◌≤◌, ◌⊎◌, Bool, true, false, Option, None, Some, List, length, take, drop, Result, Ok, Err}
use Rattle.std.specs.IoError.{error_kind}
use Rattle.std.specs.declared.io.Error.{Error}
use Rattle.std.specs.declared.io.ErrorKind.{ErrorKind}
use Rattle.std.specs.declared.io.ErrorKind.TheVariants.{UnexpectedEof, InvalidData}
use Rattle.perfdata_sources.specs.Raw.{HasNoNul, SplitsAtNul}

-- Bytes start with the encoding of a value, which other bytes follow; or they have a first error, of this kind.
pub data Outcome (V : Type 0) : Type 0 where
  encodes : V → List ℕ → Outcome V
  fails : ErrorKind → Outcome V

-- The bytes start with these n bytes, followed by `rest`.
pub record IsBlock (n : ℕ) (xs block rest : List ℕ) : Type 0 where
  pub enough : n ≤ length xs
  pub block_is : block ≡ take n xs
  pub rest_is : rest ≡ drop n xs

-- There are fewer than n bytes, and the error is an unexpected end.
pub record IsTruncated (n : ℕ) (xs : List ℕ) (kind : ErrorKind) : Type 0 where
  pub too_few : length xs < n
  pub kind_is : kind ≡ UnexpectedEof

-- The next n bytes.
abbrev pub block : ℕ → List ℕ → Outcome (List ℕ) → Type 0
block n xs (encodes bytes rest) = IsBlock n xs bytes rest
block n xs (fails kind) = IsTruncated n xs kind

-- There is no NUL, and the error is invalid data.
pub record IsUnterminated (xs : List ℕ) (kind : ErrorKind) : Type 0 where
  pub no_nul : HasNoNul xs
  pub kind_is : kind ≡ InvalidData

-- A text, which ends before the first NUL.
abbrev pub text : List ℕ → Outcome (List ℕ) → Type 0
text xs (encodes string rest) = SplitsAtNul xs string rest
text xs (fails kind) = IsUnterminated xs kind

-- A value, and then one whose format depends on it. The first error is that of the first value, or of the second one.
pub record IsBoth {A B : Type 0} (first : List ℕ → Outcome A → Type 0) (second : A → List ℕ → Outcome B → Type 0) (xs : List ℕ) (value : A × B)
    (rest : List ℕ) : Type 0 where
  pub middle : List ℕ
  pub starts : first xs (encodes value.0 middle)
  pub goes_on : second value.0 middle (encodes value.1 rest)

pub record FailsSecond {A B : Type 0} (first : List ℕ → Outcome A → Type 0) (second : A → List ℕ → Outcome B → Type 0) (xs : List ℕ)
    (kind : ErrorKind) : Type 0 where
  pub value : A
  pub middle : List ℕ
  pub starts : first xs (encodes value middle)
  pub error : second value middle (fails kind)

abbrev pub both : {A B : Type 0} → (List ℕ → Outcome A → Type 0) → (A → List ℕ → Outcome B → Type 0) → List ℕ → Outcome (A × B) → Type 0
both first second xs (encodes value rest) = IsBoth first second xs value rest
both first second xs (fails kind) = first xs (fails kind) ⊎ FailsSecond first second xs kind

-- A value that only determines the format of the next one.
pub record IsLed {A B : Type 0} (first : List ℕ → Outcome A → Type 0) (second : A → List ℕ → Outcome B → Type 0) (xs : List ℕ) (value : B)
    (rest : List ℕ) : Type 0 where
  pub lead : A
  pub middle : List ℕ
  pub starts : first xs (encodes lead middle)
  pub goes_on : second lead middle (encodes value rest)

abbrev pub led : {A B : Type 0} → (List ℕ → Outcome A → Type 0) → (A → List ℕ → Outcome B → Type 0) → List ℕ → Outcome B → Type 0
led first second xs (encodes value rest) = IsLed first second xs value rest
led first second xs (fails kind) = first xs (fails kind) ⊎ FailsSecond first second xs kind

-- A value that is there or not.
abbrev pub optional : {V : Type 0} → Bool → (List ℕ → Outcome V → Type 0) → List ℕ → Outcome (Option V) → Type 0
optional present format xs (encodes (Some value) rest) = (present ≡ true) × format xs (encodes value rest)
optional present format xs (encodes None rest) = (present ≡ false) × (rest ≡ xs)
optional present format xs (fails kind) = (present ≡ true) × format xs (fails kind)

-- A value of n bytes, which is a function of them.
pub record IsFixed {V : Type 0} (n : ℕ) (value_of : List ℕ → V) (xs : List ℕ) (value : V) (rest : List ℕ) : Type 0 where
  pub enough : n ≤ length xs
  pub value_is : value ≡ value_of (take n xs)
  pub rest_is : rest ≡ drop n xs

abbrev pub fixed : {V : Type 0} → ℕ → (List ℕ → V) → List ℕ → Outcome V → Type 0
fixed n value_of xs (encodes value rest) = IsFixed n value_of xs value rest
fixed n value_of xs (fails kind) = IsTruncated n xs kind

-- A part of n bytes, whose value is a function of them, and a text.
pub record IsFixedAndText {V : Type 0} (n : ℕ) (value_of : List ℕ → V) (xs : List ℕ) (value : V × List ℕ) (rest : List ℕ) : Type 0 where
  pub enough : n ≤ length xs
  pub value_is : value.0 ≡ value_of (take n xs)
  pub string_is : SplitsAtNul (drop n xs) value.1 rest

-- All of the n bytes are there, and no NUL after them.
pub record IsUnterminatedAfter (n : ℕ) (xs : List ℕ) (kind : ErrorKind) : Type 0 where
  pub enough : n ≤ length xs
  pub unterminated : IsUnterminated (drop n xs) kind

abbrev pub fixed_and_text : {V : Type 0} → ℕ → (List ℕ → V) → List ℕ → Outcome (V × List ℕ) → Type 0
fixed_and_text n value_of xs (encodes value rest) = IsFixedAndText n value_of xs value rest
fixed_and_text n value_of xs (fails kind) = IsTruncated n xs kind ⊎ IsUnterminatedAfter n xs kind

-- A part of n bytes, whose value is a function of them, and a block whose size is also a function of them.
pub record IsFixedAndBlock {V : Type 0} (n : ℕ) (value_of : List ℕ → V) (size_of : List ℕ → ℕ) (xs : List ℕ) (value : V × List ℕ) (rest : List ℕ) : Type 0 where
  pub enough : n ≤ length xs
  pub value_is : value.0 ≡ value_of (take n xs)
  pub block_is : IsBlock (size_of (take n xs)) (drop n xs) value.1 rest

-- All of the n bytes are there, and the block after them is truncated.
pub record IsTruncatedAfter (n : ℕ) (size_of : List ℕ → ℕ) (xs : List ℕ) (kind : ErrorKind) : Type 0 where
  pub enough : n ≤ length xs
  pub truncated : IsTruncated (size_of (take n xs)) (drop n xs) kind

abbrev pub fixed_and_block : {V : Type 0} → ℕ → (List ℕ → V) → (List ℕ → ℕ) → List ℕ → Outcome (V × List ℕ) → Type 0
fixed_and_block n value_of size_of xs (encodes value rest) = IsFixedAndBlock n value_of size_of xs value rest
fixed_and_block n value_of size_of xs (fails kind) = IsTruncated n xs kind ⊎ IsTruncatedAfter n size_of xs kind

-- What decoding does: it consumes the encoding of the result, seen as a value of the format, or fails with the first error.
abbrev pub Decodes : {V R : Type 0} → (List ℕ → Outcome V → Type 0) → (R → V) → List ℕ → Result R Error → List ℕ → Type 0
Decodes format view old (Ok result) new = format old (encodes (view result) new)
Decodes format view old (Err e) new = format old (fails (error_kind e))
