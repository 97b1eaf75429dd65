-- The text of a line: names with semicolons between them.
use Rattle.std.specs.Prelude.{◌≡◌, ℕ, ◌<◌, ◌==◌, nat_lt, ◌||◌, List, ◌++◌, length, take, if◌then◌else◌}

-- A byte of a name: a semicolon is a colon, and a control character of ASCII a blank.
abbrev pub name_byte : ℕ → ℕ
name_byte byte = if byte == 59 then 58 else if nat_lt byte 32 || (byte == 127) then 32 else byte

-- A byte of the name of a thread, in which a blank is an underscore.
abbrev pub comm_byte : ℕ → ℕ
comm_byte byte = if name_byte byte == 32 then 95 else name_byte byte

-- The first bytes, but not all, are appended to a line, which is otherwise unchanged.
pub record AppendsPart (old bytes new : List ℕ) : Type 0 where
  pub count : ℕ
  pub not_all : count < length bytes
  pub is : new ≡ old ++ take count bytes
