-- Steps of private functions: a position in the bytes of a name.
use Rattle.std.specs.Prelude.{◌≡◌, ◌-◌, ℕ, Some}
use Rattle.std.specs.Char.{IsAsciiDigit}
use Rattle.demangle_text.specs.declared.cursor.Cursor.{Cursor}
use Rattle.demangle_text.specs.Cursor.{byte_at}

-- the byte at the position is a digit with this value
pub record IsDigitAt (c : Cursor) (digit : ℕ) : Type 0 where
  pub byte : ℕ
  pub byte_is : byte_at c ≡ Some byte
  pub is_digit : IsAsciiDigit byte
  pub value : digit ≡ byte - 48
