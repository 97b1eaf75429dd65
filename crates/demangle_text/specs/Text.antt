-- Texts of limited length.
use Rattle.std.specs.Prelude.{ℕ, List, ◌+◌, ◌*◌, ◌<◌, min, length}
use Rattle.demangle_text.specs.declared.text.Text.{Text}
use Rattle.demangle_text.specs.declared.failure.Failure.{Failure}
use Rattle.demangle_text.specs.declared.failure.Failure.TheVariants.{Grammar, Limit, Memory}

-- the bytes
abbrev pub text_of : Text → List ℕ
text_of t = t.bytes.items

-- the greatest number of bytes
abbrev pub limit_of : Text → ℕ
limit_of t = t.limit

-- the limit of the text of a name of this length: 128 bytes for each byte, and at most 65,536
abbrev pub limit_for : ℕ → ℕ
limit_for name_length = min (128 * name_length) 65536

-- why bytes aren't appended: there are too many, or memory runs out
abbrev pub IsWhy : Text → ℕ → Failure → Type 0
IsWhy old count Grammar = ⊥
IsWhy old count Limit = limit_of old < length (text_of old) + count
IsWhy old count Memory = Unit {0}
