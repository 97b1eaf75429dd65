-- Bytes in one slice or in two, seen as one list, and the prefixes that calls remove.
use Rattle.std.specs.Prelude.{◌≡◌, ◌≢◌, ◌<◌, ◌≤◌, ℕ, List, ◌∷◌, ◌++◌, length, drop, ⊤}
use Rattle.std.specs.IoError.{error_kind}
use Rattle.std.specs.List.{All}
use Rattle.std.specs.declared.io.Error.{Error}
use Rattle.std.specs.declared.io.ErrorKind.TheVariants.{UnexpectedEof}
use Rattle.perfdata_sources.specs.declared.raw.RawData.{RawData}
use Rattle.perfdata_sources.specs.declared.raw.RawData.TheVariants.{Single, Split}

-- the bytes as one list
abbrev pub bytes_of : RawData → List ℕ
bytes_of (Single s) = s.now
bytes_of (Split s t) = s.now ++ t.now

-- the bytes are in one slice
abbrev pub IsSingle : RawData → Type 0
IsSingle (Single s) = ⊤
IsSingle (Split s t) = ⊥

-- There are at least count bytes, and `new` is the value without the first count of them. If the old value is in one slice, so is
-- the new one.
pub record DropsPrefix (count : ℕ) (old new : RawData) : Type 0 where
  pub enough : count ≤ length (bytes_of old)
  pub rest : bytes_of new ≡ drop count (bytes_of old)
  pub single : IsSingle old → IsSingle new

-- there are fewer than count bytes, and the error is an unexpected end
pub record EndsBefore (count : ℕ) (old : List ℕ) (error : Error) : Type 0 where
  pub too_few : length old < count
  pub kind : error_kind error ≡ UnexpectedEof

-- no byte is NUL
abbrev pub HasNoNul : List ℕ → Type 0
HasNoNul bytes = All (λ b. b ≢ 0) bytes

-- the bytes begin with a string and its NUL, followed by `rest`
pub record SplitsAtNul (bytes text rest : List ℕ) : Type 0 where
  pub split : bytes ≡ text ++ (0 ∷ rest)
  pub no_nul : HasNoNul text

-- The old bytes are a string, its NUL and the bytes of `new`. If the old value is in one slice, so are the string and `new`.
pub record ReadsNulString (old string new : RawData) : Type 0 where
  pub split : bytes_of old ≡ bytes_of string ++ (0 ∷ bytes_of new)
  pub no_nul : HasNoNul (bytes_of string)
  pub single : IsSingle old → IsSingle string × IsSingle new
