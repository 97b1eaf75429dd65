-- A position in the bytes of a name.
use Rattle.std.specs.Prelude.{◌≡◌, ◌+◌, ◌<◌, ◌≤◌, ◌^◌, ◌-◌, ℕ, List, [], Option, Result, Ok, Err, drop, length, slice_get}
use Rattle.std.specs.Str.Parse.{digits_value}
use Rattle.demangle_text.specs.Digits.{leading_digits}
use Rattle.demangle_text.specs.declared.cursor.Cursor.{Cursor}
use Rattle.demangle_text.specs.declared.failure.Failure.{Failure}
use Rattle.demangle_text.specs.declared.failure.Failure.TheVariants.{Grammar, Limit, Memory}

-- all bytes of the name
abbrev pub bytes_of : Cursor → List ℕ
bytes_of c = c.bytes.now

-- the number of bytes before the position
abbrev pub position_of : Cursor → ℕ
position_of c = c.position

-- the byte at the position, or `None` if there is none
abbrev pub byte_at : Cursor → Option ℕ
byte_at c = slice_get (bytes_of c) (position_of c)

-- the bytes from the position on
abbrev pub unread : Cursor → List ℕ
unread c = drop (position_of c) (bytes_of c)

-- the number is that of the decimal digits at the old position, and the new position is after them
pub record IsNumberRead (old : Cursor) (number : ℕ) (new : Cursor) : Type 0 where
  pub some : 0 < length (leading_digits (unread old))
  pub value : number ≡ digits_value 10 (leading_digits (unread old))
  pub position : position_of new ≡ position_of old + length (leading_digits (unread old))

-- what a call returns that reads a number below 2^64
abbrev pub ReadsNumber : Cursor → Result ℕ Failure → Cursor → Type 0
ReadsNumber old (Ok number) new = IsNumberRead old number new
ReadsNumber old (Err Grammar) new = leading_digits (unread old) ≡ []
ReadsNumber old (Err Limit) new = 2 ^ 64 ≤ digits_value 10 (leading_digits (unread old))
ReadsNumber old (Err Memory) new = ⊥
