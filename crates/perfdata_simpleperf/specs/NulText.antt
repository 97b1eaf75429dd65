-- NUL-terminated strings.
use Rattle.std.specs.Prelude.{◌≡◌, ◌⊎◌, ℕ, List, Result, Ok, Err}
use Rattle.std.specs.Borrow.{Bor}
use Rattle.std.specs.IoError.{error_kind}
use Rattle.std.specs.Str.{IsUtf8}
use Rattle.std.specs.declared.io.Error.{Error}
use Rattle.std.specs.declared.io.ErrorKind.{ErrorKind}
use Rattle.std.specs.declared.io.ErrorKind.TheVariants.{UnexpectedEof, InvalidData}
use Rattle.perfdata_sources.specs.Raw.{HasNoNul, SplitsAtNul}

-- the bytes begin with a string of UTF-8 and its NUL, followed by `rest`
pub record TextAt (bytes text rest : List ℕ) : Type 0 where
  pub splits_at_nul : SplitsAtNul bytes text rest
  pub utf8 : IsUtf8 text

-- the bytes before the first NUL aren't UTF-8
pub record HasInvalidUtf8 (bytes : List ℕ) : Type 0 where
  pub text : List ℕ
  pub rest : List ℕ
  pub splits_at_nul : SplitsAtNul bytes text rest
  pub not_utf8 : ¬ IsUtf8 text

-- the bytes begin with no string, and this is the kind of error: there is no NUL, or the bytes before the first aren't UTF-8
abbrev pub TextError : List ℕ → ErrorKind → Type 0
TextError bytes kind = ((kind ≡ UnexpectedEof) × HasNoNul bytes) ⊎ ((kind ≡ InvalidData) × HasInvalidUtf8 bytes)

-- the result of reading a string from the start of the bytes; an error leaves the bytes unchanged
abbrev pub ReadsNulText : List ℕ → Result (Bor (List ℕ)) Error → List ℕ → Type 0
ReadsNulText old (Ok text) new = TextAt old text.now new
ReadsNulText old (Err e) new = (new ≡ old) × TextError old (error_kind e)
