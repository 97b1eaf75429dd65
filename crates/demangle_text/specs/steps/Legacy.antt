-- Steps of private functions: rust's names of before: parts with their lengths, the last of which is a hash; and their text.
use Rattle.std.specs.Prelude.{◌≡◌, ◌+◌, ◌<◌, ◌≤◌, ◌⊎◌, ◌==◌, if◌then◌else◌, ℕ, false, List, [], ◌∷◌, ◌++◌}
use Rattle.std.specs.Prelude.{All, Option, None, length}
use Rattle.demangle_text.specs.Cursor.{position_of, unread}
use Rattle.demangle_text.specs.Text.{text_of}
use Rattle.demangle_text.specs.declared.cursor.Cursor.{Cursor}
use Rattle.demangle_text.specs.declared.text.Text.{Text}
use Rattle.demangle_text.specs.Legacy.{IsPart, written, is_dollar, escaped, text_of_part}

-- a number is a character, and none of the first 32, which are control characters; and the test of that
abbrev pub IsVisible : ℕ → Type 0
IsVisible c = (32 ≤ c) × ((c < 0xD800) ⊎ ((0xDFFF < c) × (c < 0x11_0000)))

-- after a `$`: the name of an escape, `$` and the rest; and the character of the escape, if it has one
pub record IsEscape (bytes rest : List ℕ) (character : Option ℕ) : Type 0 where
  pub name : List ℕ
  pub split : bytes ≡ name ++ 36 ∷ rest
  pub first : All (λ b. is_dollar b ≡ false) name
  pub character_is : escaped name ≡ character

-- after a `$` that starts no escape
abbrev pub IsNoEscape : List ℕ → Type 0
IsNoEscape bytes = (All (λ b. is_dollar b ≡ false) bytes) ⊎ ((rest : List ℕ) × IsEscape bytes rest None)

-- what is between the text of a part and the parts before it
abbrev pub separator : ℕ → List ℕ
separator position = if position == 0 then [] else (58 ∷ (58 ∷ []))

-- a part is read at the position, and its text is appended, after `::` unless the position is 0
pub record AppendsPart (cursor next : Cursor) (old new : Text) : Type 0 where
  pub part : List ℕ
  pub is : IsPart part
  pub bytes : unread cursor ≡ written part ++ unread next
  pub position : position_of next ≡ position_of cursor + length (written part)
  pub text : text_of new ≡ text_of old ++ (separator (position_of cursor) ++ text_of_part part)
