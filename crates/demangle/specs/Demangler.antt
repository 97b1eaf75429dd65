-- The text of a demangler.
use Rattle.std.specs.Prelude.{ℕ, List}
use Rattle.demangle_text.specs.Text.{text_of}
use Rattle.demangle.specs.declared.demangler.Demangler.{Demangler}

-- the text of the last name, which is empty if that has none
abbrev pub text_in : Demangler → List ℕ
text_in d = text_of d.text
